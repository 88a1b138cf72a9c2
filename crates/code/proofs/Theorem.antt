-- The extension of a content is the one list that begins with it and has the code's form.
use Rattle.std.proofs.Common.{◌≡◌, ℕ, ◌-◌, ◌<◌, ◌≤◌, ltb, List, ◌++◌, length, get_or, take, sym, ap, ◌∙◌, subst, ap₂, ⊎_elim, arith}
use Rattle.std.proofs.lemmas.List.{length-take-le, get_or-take, ext_get_or, take_at}
use Rattle.std.proofs.lemmas.Bool.{cases_lt, cond-true, cond-false, lt-ltb, le-ltb}
use Rattle.algebra.specs.Operations.{Lawful}
use Rattle.field.specs.Meaning.{Meaning, Element, operations, product_of}
use Rattle.plan.specs.declared.Plan.{Plan}
use Rattle.plan.proofs.Facts as facts
use Rattle.poly.specs.Arithmetic.{quotient_of}
use Rattle.poly.specs.Polynomials.{Elements, value_of}
use Rattle.poly.specs.Newton.{made, coefficients_of, nested_of}
use Rattle.poly.specs.Interpolation.{Through}
use Rattle.field.proofs.Making.{length_made, made_at}
use Rattle.poly.proofs.Elementary as elementary
use Rattle.poly.proofs.Scaling.{scaled_back, back_scaled}
use Rattle.poly.proofs.Uniqueness.{one_through}
use Rattle.code.specs.Codes.{support_of, multipliers_of, Letters, Evaluates, content_of}
use Rattle.code.specs.Extension.{scaled_of, letter_at, extension_of, Extends}

module _ (p : Plan) (m : Meaning) (law : Lawful (operations m)) (same : p.size ≡ m.size) (c : List ℕ) (long : length c ≡ p.n - p.t) (letters : Letters m c) where
  abbrev α : List ℕ
  α = support_of p

  abbrev β : List ℕ
  β = multipliers_of p

  -- the values of the polynomial at the places of the content
  abbrev s : List ℕ
  s = scaled_of m β c

  short : length c ≤ p.n
  short = omega arith

  s_long : length s ≡ length c
  unfolding scaled_of
  s_long = length_made _ (length c)

  s_at : (i : ℕ) → i < length c → get_or s i 0 ≡ quotient_of m (get_or c i 0) (get_or β i 0)
  unfolding scaled_of
  s_at i h = made_at _ (length c) i 0 h

  α_elements : Elements m α
  α_elements i h = let k : i < p.n = omega (arith, facts.support_length p) in omega (arith, facts.element p i k)

  s_elements : Elements m s
  s_elements i h = let k : i < length c = omega (arith, s_long) in subst (λ x. x < m.size) (sym (s_at i k)) (elementary.quotient_element m law _ _)

  β_high : (i : ℕ) → i < p.n → get_or β i 0 < m.size
  β_high i h = omega (arith, facts.multiplier_high p i h)

  β_low : (i : ℕ) → i < p.n → get_or β i 0 ≡ 0 → ⊥
  β_low i h e = omega (arith, facts.multiplier_low p i h)

  -- the one polynomial with these values
  one : (f : List ℕ)
      × Through m α s f
      × ((g : List ℕ) → Through m α s g → g ≡ f)
      × ((z : ℕ) → Element m z → value_of m f z ≡ nested_of m α (coefficients_of m α s) z)
  one = one_through m law α s α_elements s_elements (omega (arith, s_long, facts.support_length p)) (λ i j l h. facts.distinct_elements p i j l (omega (arith, s_long)))

  -- its list of coefficients
  abbrev f : List ℕ
  f = one.0

  -- the extended content
  abbrev e : List ℕ
  e = extension_of m p.n α β c

  e_long : length e ≡ p.n
  unfolding extension_of
  e_long = length_made _ p.n

  e_within : (i : ℕ) → i < length c → get_or e i 0 ≡ get_or c i 0
  unfolding extension_of letter_at
  e_within i h = made_at _ p.n i 0 (omega (arith, short)) ∙ cond-true (ltb i (length c)) _ _ (lt-ltb i (length c) h)

  e_after : (i : ℕ) → i < p.n → length c ≤ i → get_or e i 0 ≡ product_of m (get_or β i 0) (nested_of m α (coefficients_of m α s) (get_or α i 0))
  unfolding extension_of letter_at
  e_after i l h = made_at _ p.n i 0 l ∙ cond-false (ltb i (length c)) _ _ (le-ltb i (length c) h)

  α_element : (i : ℕ) → i < p.n → get_or α i 0 < m.size
  α_element i h = omega (arith, facts.element p i h)

  -- the extension has the form of the code
  e_values : (i : ℕ) → i < p.n → get_or e i 0 ≡ product_of m (get_or β i 0) (value_of m f (get_or α i 0))
  e_values i h = ⊎_elim
      (λ k. e_within i k
      ∙ sym (scaled_back m law (get_or β i 0) (β_high i h) (β_low i h) (get_or c i 0) (letters i k).0)
      ∙ ap (product_of m (get_or β i 0)) (sym (s_at i k) ∙ sym (one.1.values i (omega (arith, s_long)))))
      (λ k. e_after i h k ∙ ap (product_of m (get_or β i 0)) (sym (one.3 (get_or α i 0) (α_element i h))))
      (cases_lt i (length c))

  e_evaluates : Evaluates p m f e
  e_evaluates = record {
    polynomial = (one.1.polynomial.0 ∙ s_long ∙ long, one.1.polynomial.1);
    values = e_values;
  }

  e_begins : content_of p e ≡ c
  e_begins = ext_get_or 0 (take (p.n - p.t) e) c (length-take-le (p.n - p.t) e (omega (arith, e_long)) ∙ sym long)
      (λ i h. let k : i < p.n - p.t = omega (arith, length-take-le (p.n - p.t) e (omega (arith, e_long))) in get_or-take (p.n - p.t) e i 0 k ∙ e_within i (omega arith))

  -- what has the form of the code and begins with the content is the extension
  e_only : (ys g : List ℕ) → length ys ≡ p.n → Evaluates p m g ys → content_of p ys ≡ c → ys ≡ e
  e_only ys g n v b = ext_get_or 0 ys e (n ∙ sym e_long)
      (λ i h. let k : i < p.n = omega arith in v.values i k ∙ ap (λ x. product_of m (get_or β i 0) (value_of m x (get_or α i 0))) (one.2 g through) ∙ sym (e_values i k))
    where
      front : (i : ℕ) → i < length c → get_or ys i 0 ≡ get_or c i 0
      front i h = sym (get_or-take (p.n - p.t) ys i 0 (omega arith)) ∙ ap (λ xs. get_or xs i 0) b

      through : Through m α s g
      through = record {
        polynomial = (v.polynomial.0 ∙ sym (s_long ∙ long), v.polynomial.1);
        values = λ i h.
            let k : i < length c = omega (arith, s_long) in
            let l : i < p.n = omega (arith, short) in
            sym (back_scaled m law (get_or β i 0) (β_high i l) (β_low i l) (value_of m g (get_or α i 0)) (elementary.value_element m law g (get_or α i 0)))
            ∙ ap (λ x. quotient_of m x (get_or β i 0)) (sym (v.values i l) ∙ front i k)
            ∙ sym (s_at i k);
      }

  -- the extension is the one list of its kind
  pub extends : Extends p m c e
  extends = record { long = e_long; begins = e_begins; evaluation = (f, e_evaluates); only = e_only }

  -- as it is worked out, in front of what else stands in an array
  pub extended : (support scaled coefficients word rest : List ℕ)
      → support ≡ α
      → scaled ≡ s
      → coefficients ≡ coefficients_of m support scaled
      → word ≡ made p.n (letter_at m α β c coefficients)
      → Extends p m c (take p.n (word ++ rest))
  unfolding extension_of
  extended support scaled coefficients word rest a b d w =
      let whole : word ≡ e = w ∙ ap (λ x. made p.n (letter_at m α β c x)) (d ∙ ap₂ (coefficients_of m) a b) in
      subst (Extends p m c) (sym (take_at word rest p.n (ap length whole ∙ e_long) ∙ whole)) extends
