-- The polynomial with given values at distinct points is Newton's, over numbers.
use Rattle.std.proofs.Common.{◌≡◌, ℕ, zero, suc, ◌+◌, ◌<◌, ltb, List, length, get_or, sym, ap, ◌∙◌, ap₂, ⊎_elim, zero-add, arith}
use mathlib.Core.Path.{fun_ext}
use Rattle.std.proofs.lemmas.List.{get_or_past, ext_get_or}
use Rattle.std.proofs.lemmas.Bool.{cases_lt, cases_order, cond_both}
use Rattle.algebra.specs.Operations.{Operations, Lawful}
use Rattle.algebra.specs.Ring.{CommRing, sub}
use Rattle.algebra.specs.Elements.{Elem, element_ring, elements, into}
use Rattle.algebra.specs.Series.{Series, tail}
use Rattle.algebra.specs.Degree.{Below}
use Rattle.algebra.specs.Evaluation.{eval}
use Rattle.algebra.specs.Interpolation.{Separate, differences, newton, newton_value}
use Rattle.algebra.proofs.Elements.{into_zero, into_injective, into_number, number_into}
use Rattle.algebra.proofs.Interpolation.{below_newton, eval_newton, newton_through, newton_unique}
use Rattle.field.specs.Meaning.{Meaning, operations}
use Rattle.poly.specs.Polynomials.{Elements, value_of}
use Rattle.poly.specs.Newton.{made, divided_at, swept_at, reduced, coefficients_of, nested_from, nested_of}
use Rattle.poly.specs.Interpolation.{Distinct, Through, OneThrough}
use Rattle.field.proofs.Making.{length_made, made_at}
use Rattle.poly.proofs.Elementary as elementary
use Rattle.poly.proofs.NewtonForm.{swept_divided, nested_same, reduced_final}

module _ (m : Meaning) (law : Lawful (operations m)) (α β : List ℕ) (α_element : (i : ℕ) → get_or α i 0 < m.size) (β-element : (i : ℕ) → get_or β i 0 < m.size) where
  abbrev o : Operations
  o = operations m

  abbrev R : CommRing (Elem o)
  R = element_ring o law

  -- the element of a number
  abbrev ⌈◌⌉ : ℕ → Elem o
  ⌈ a ⌉ = into o law a

  -- the points from j on
  abbrev points : ℕ → ℕ → Elem o
  points j i = ⌈ get_or α (j + i) 0 ⌉

  -- the values from j on, divided against the first j places
  abbrev values : ℕ → ℕ → Elem o
  values j i = ⌈ reduced m α β j (j + i) ⌉

  reduced_element : (j i : ℕ) → reduced m α β j i < m.size
  unfolding reduced swept_at divided_at
  reduced_element zero i = β-element i
  reduced_element (suc j) i = cond_both (ltb j i) _ _ (λ x. x < m.size) (λ e. elementary.quotient_element m law _ _) (λ e. reduced_element j i)

  divided : (j i : ℕ) → j < i → ⌈ reduced m α β (suc j) i ⌉ ≡ R.mul (sub R ⌈ reduced m α β j i ⌉ ⌈ reduced m α β j j ⌉) ((elements o law).inv (sub R ⌈ get_or α i 0 ⌉ ⌈ get_or α j 0 ⌉))
  unfolding reduced divided_at
  divided j i h =
      ap ⌈◌⌉ (swept_divided m α (reduced m α β j) j i h)
      ∙ elementary.quotient_into m law _ _ (elementary.difference_element m law _ _) (elementary.difference_element m law _ _)
      ∙ ap₂
      (λ x y. R.mul x ((elements o law).inv y))
      (elementary.difference_into m law _ _ (reduced_element j i) (reduced_element j j))
      (elementary.difference_into m law _ _ (α_element i) (α_element j))

  -- one sweep is one step of the divided differences
  step : (j : ℕ) → differences (elements o law) (points j) (values j) ≡ values (suc j)
  step j = fun_ext (λ i.
      let e1 : j + suc i ≡ suc j + i = omega arith in
      let e2 : j + 0 ≡ j = omega arith in
      ap₂
      (λ x y. R.mul (sub R ⌈ reduced m α β j x ⌉ ⌈ reduced m α β j y ⌉) ((elements o law).inv (sub R ⌈ get_or α x 0 ⌉ ⌈ get_or α y 0 ⌉)))
      e1
      e2
      ∙ sym (divided j (suc j + i) (omega arith)))

  next_points : (j : ℕ) → tail (points j) ≡ points (suc j)
  next_points j = fun_ext (λ i. let e : j + suc i ≡ suc j + i = omega arith in ap (λ x. ⌈ get_or α x 0 ⌉) e)

  nested_element : (d : ℕ → ℕ) (z n i : ℕ) → nested_from m α d z n i < m.size
  unfolding nested_from
  nested_element d z zero i = elementary.zero_is m law
  nested_element d z (suc n) i = elementary.sum_element m law _ _

  newton_nested : (z : ℕ) → z < m.size → (n j : ℕ) → newton_value (elements o law) n (points j) (values j) ⌈ z ⌉ ≡ ⌈ nested_from m α (λ i. reduced m α β i i) z n j ⌉
  unfolding nested_from
  newton_nested z h zero j = sym (into_zero o law)
  newton_nested z h (suc n) j =
      let e : j + 0 ≡ j = omega arith in
      let rest : ℕ = nested_from m α (λ i. reduced m α β i i) z n (suc j) in
      ap₂
      (λ x y. R.add ⌈ reduced m α β j x ⌉ (R.mul (sub R ⌈ z ⌉ ⌈ get_or α x 0 ⌉) y))
      e
      (ap₂ (λ a d. newton_value (elements o law) n a d ⌈ z ⌉) (next_points j) (step j) ∙ newton_nested z h n (suc j))
      ∙ sym
      (elementary.sum_into m law _ _ (reduced_element j j) (elementary.product_element m law _ _)
      ∙ ap
      (R.add ⌈ reduced m α β j j ⌉)
      (elementary.product_into m law _ rest (elementary.difference_element m law _ _) (nested_element _ z n (suc j))
      ∙ ap (λ x. R.mul x ⌈ rest ⌉) (elementary.difference_into m law z (get_or α j 0) h (α_element j))))

  -- the points and the values as the algebra takes them
  abbrev pub abscissae : ℕ → Elem o
  abscissae i = ⌈ get_or α i 0 ⌉

  abbrev pub ordinates : ℕ → Elem o
  ordinates i = ⌈ get_or β i 0 ⌉

  from_start : newton_value (elements o law) (length β) (points 0) (values 0) ≡ newton_value (elements o law) (length β) abscissae ordinates
  unfolding reduced
  from_start = ap₂ (newton_value (elements o law) (length β)) (fun_ext (λ i. ap (λ x. ⌈ get_or α x 0 ⌉) (zero-add i))) (fun_ext (λ i. ap (λ x. ⌈ get_or β x 0 ⌉) (zero-add i)))

  coefficients : (z : ℕ) → nested_of m α (coefficients_of m α β) z ≡ nested_from m α (λ i. reduced m α β i i) z (length β) 0
  unfolding nested_of coefficients_of
  coefficients z =
      ap (λ n. nested_from m α (λ i. get_or (made (length β) (reduced m α β (length β))) i 0) z n 0) (length_made (reduced m α β (length β)) (length β))
      ∙ nested_same m α _ _ z (length β) 0 (λ k a b. made_at _ (length β) k 0 (omega arith) ∙ reduced_final m α β (length β) k (omega arith))

  -- what the form computes is Newton's value
  pub newton_is : (z : ℕ) → z < m.size → ⌈ nested_of m α (coefficients_of m α β) z ⌉ ≡ newton_value (elements o law) (length β) abscissae ordinates ⌈ z ⌉
  newton_is z h = ap ⌈◌⌉ (coefficients z) ∙ sym (newton_nested z h (length β) 0) ∙ ap (λ v. v ⌈ z ⌉) from_start

  computed_element : (z : ℕ) → nested_of m α (coefficients_of m α β) z < m.size
  unfolding nested_of
  computed_element z = nested_element _ z _ 0

  -- the polynomial of a list
  abbrev polynomial : List ℕ → Series (Elem o)
  polynomial = elementary.polynomial m law

  below : (f : List ℕ) → Below R (length f) (polynomial f)
  below f n h = ap ⌈◌⌉ (get_or_past f n 0 h) ∙ into_zero o law

  -- Newton's polynomial and its coefficients as numbers
  abbrev form : Series (Elem o)
  form = newton (elements o law) (length β) abscissae ordinates

  abbrev found : List ℕ
  found = made (length β) (λ i. (form i).0)

  found_element : (i : ℕ) → i < length found → get_or found i 0 < m.size
  found_element i h =
      let l : i < length β = omega (arith, length_made (λ i. (form i).0) (length β)) in
      let e = made_at (λ i. (form i).0) (length β) i 0 l in
      let k = (form i).1 in
      omega arith

  found_is : polynomial found ≡ form
  found_is = fun_ext (λ i. ⊎_elim
      (λ h. ap ⌈◌⌉ (made_at (λ i. (form i).0) (length β) i 0 h) ∙ into_number o law (form i))
      (λ h. ap ⌈◌⌉ (get_or_past found i 0 (omega (arith, length_made (λ i. (form i).0) (length β)))) ∙ into_zero o law ∙ sym (below_newton (elements o law) (length β) abscissae ordinates i h))
      (cases_lt i (length β)))

  everywhere : (f : List ℕ) → Elements m f → (i : ℕ) → get_or f i 0 < m.size
  everywhere = elementary.everywhere m (elementary.zero_is m law)

  found_value : (z : ℕ) → z < m.size → ⌈ value_of m found z ⌉ ≡ newton_value (elements o law) (length β) abscissae ordinates ⌈ z ⌉
  found_value z h =
      elementary.value_into m law found z (everywhere found found_element) h
      ∙ ap₂ (λ d f. eval R d f ⌈ z ⌉) (length_made (λ i. (form i).0) (length β)) found_is
      ∙ eval_newton (elements o law) (length β) abscissae ordinates ⌈ z ⌉

  computes : (z : ℕ) → z < m.size → value_of m found z ≡ nested_of m α (coefficients_of m α β) z
  computes z h = into_injective o law _ _ (elementary.value_element m law found z) (computed_element z) (found_value z h ∙ sym (newton_is z h))

  module _ (distinct : Distinct (length β) α) where
    separate : Separate (length β) abscissae
    separate i j h k e =
        let p = into_injective o law (get_or α i 0) (get_or α j 0) (α_element i) (α_element j) e in
        ⊎_elim (λ q. q) (⊎_elim (λ l. absurd (distinct i j l k p)) (λ l. absurd (distinct j i l h (sym p)))) (cases_order i j)

    through : Through m α β found
    through = record {
      polynomial = (length_made (λ i. (form i).0) (length β), found_element);
      values = λ i h. into_injective o law _ _ (elementary.value_element m law found (get_or α i 0)) (β-element i) (found_value (get_or α i 0) (α_element i) ∙ newton_through (elements o law) (length β) abscissae ordinates separate i h);
    }

    only : (g : List ℕ) → Through m α β g → g ≡ found
    only g t =
        let n = t.polynomial.0 in
        let e : polynomial g ≡ form =
        newton_unique (elements o law) (length β) abscissae ordinates (polynomial g) separate
        (λ k h. below g k (omega arith))
        (λ i h. ap (λ d. eval R d (polynomial g) (abscissae i)) (sym n) ∙ sym (elementary.value_into m law g (get_or α i 0) (everywhere g t.polynomial.1) (α_element i)) ∙ ap ⌈◌⌉ (t.values i h)) in
        ext_get_or 0 g found (n ∙ sym (length_made (λ i. (form i).0) (length β)))
        (λ i h. sym (number_into o law (get_or g i 0) (t.polynomial.1 i h)) ∙ ap (λ (f : Series (Elem o)). (f i).0) e ∙ sym (made_at (λ i. (form i).0) (length β) i 0 (omega arith)))

-- for distinct points and any values there is exactly one polynomial, and Newton's form computes its values
pub one_through : (m : Meaning) → Lawful (operations m) → OneThrough m
one_through m law α β a b l d =
    let p = elementary.everywhere m (elementary.zero_is m law) α a in
    let q = elementary.everywhere m (elementary.zero_is m law) β b in
    (found m law α β p q, through m law α β p q d, only m law α β p q d, computes m law α β p q)
