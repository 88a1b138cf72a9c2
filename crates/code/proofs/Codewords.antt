-- The words of polynomials: those of letters are the words of the code, and one word comes from one polynomial.
use Rattle.std.proofs.Common.{◌≡◌, ℕ, suc, ◌-◌, ◌<◌, ◌≤◌, cond, ltb, ◌⊎◌, List, map, length, get_or, take, sym, ap, ◌∙◌, subst, inl, inr, arith}
use mathlib.Core.Path.{fun_ext}
use Rattle.std.proofs.lemmas.List.{get_or-take, length-take-le, ext_get_or, get_or-map, get_or_past, length-map}
use Rattle.std.proofs.lemmas.Bool.{cases_lt, cond-true, cond-false, lt-ltb, le-ltb}
use Rattle.algebra.specs.Operations.{Operations, Lawful}
use Rattle.algebra.specs.Ring.{CommRing}
use Rattle.algebra.specs.Elements.{Elem, element_ring, into}
use Rattle.algebra.specs.Series.{Series}
use Rattle.algebra.specs.Degree.{Below}
use Rattle.algebra.specs.Evaluation.{eval, from_list}
use Rattle.algebra.proofs.Elements.{into_zero, number_into}
use Rattle.field.specs.Meaning.{Meaning, Element, operations}
use Rattle.plan.specs.declared.Plan.{Plan}
use Rattle.plan.proofs.Facts as facts
use Rattle.poly.specs.Arithmetic.{quotient_of}
use Rattle.poly.specs.Polynomials.{Polynomial, Elements, value_of}
use Rattle.poly.specs.Newton.{coefficients_of, nested_of}
use Rattle.poly.specs.Interpolation.{Through}
use Rattle.poly.proofs.Elementary as elementary
use Rattle.poly.proofs.Scaling.{back_scaled}
use Rattle.poly.proofs.Uniqueness.{one_through}
use Rattle.field.specs.Made.{made}
use Rattle.field.proofs.Making.{length_made, made_at, made_past}
use Rattle.code.specs.Codes.{support_of, multipliers_of, Letters, Evaluates, InCode}
use Rattle.code.specs.Decoding.{letter_of, evaluated_of, Near}
use Rattle.code.specs.Listing.{distance, weight_of, points, ordinates}

module _ (p : Plan) (m : Meaning) (f : List ℕ) where
  pub evaluated_length : length (evaluated_of p m f) ≡ 64
  unfolding evaluated_of
  evaluated_length = length_made (λ i. _) 64

  pub evaluated_at : (i : ℕ) → i < p.n → get_or (evaluated_of p m f) i 0 ≡ letter_of p m f i
  unfolding evaluated_of
  evaluated_at i h =
      made_at (λ i. _) 64 i 0 (let k : p.n ≤ 64 = p.n_high in omega arith)
      ∙ cond-true (ltb i p.n) (letter_of p m f i) 0 (lt-ltb i p.n h)

  -- the rest of the array is 0
  pub evaluated_past : (i : ℕ) → p.n ≤ i → get_or (evaluated_of p m f) i 0 ≡ 0
  unfolding evaluated_of
  evaluated_past i h = go (cases_lt i 64)
    where
      go : (i < 64) ⊎ (64 ≤ i) → ◌≡◌ {A = ℕ} (get_or (made 64 (λ i. cond (ltb i p.n) (letter_of p m f i) 0)) i 0) 0
      go (inl k) = made_at (λ i. _) 64 i 0 k ∙ cond-false (ltb i p.n) (letter_of p m f i) 0 (le-ltb i p.n h)
      go (inr k) = made_past (λ i. _) 64 i 0 k

  -- the word in the array
  abbrev pub word_of : List ℕ
  word_of = take p.n (evaluated_of p m f)

  pub word_length : length word_of ≡ p.n
  word_length =
      length-take-le p.n (evaluated_of p m f) (let k : p.n ≤ 64 = p.n_high in let e = evaluated_length in omega arith)

  pub word_at : (i : ℕ) → i < p.n → get_or word_of i 0 ≡ letter_of p m f i
  word_at i h = get_or-take p.n (evaluated_of p m f) i 0 h ∙ evaluated_at i h

  -- what has the form of the code by f is the word of f
  pub word_is : (w : List ℕ) → length w ≡ p.n → Evaluates p m f w → word_of ≡ w
  word_is w long v =
      ext_get_or 0 word_of w (word_length ∙ sym long) (λ i h. let k : i < p.n = omega (arith, word_length) in word_at i k ∙ sym (v.values i k))

  pub evaluates : Polynomial m (p.n - p.t) f → Evaluates p m f word_of
  evaluates b = record { polynomial = b; values = word_at }

  -- a word of letters is in the code
  pub in_code : Polynomial m (p.n - p.t) f → Letters m word_of → InCode p m word_of
  in_code b l = record { long = word_length; letters = l; evaluation = (f, evaluates b) }

-- an array whose word is near is near itself
pub near_word : (p : Plan) (m : Meaning) (heard f w : List ℕ)
    → word_of p m f ≡ w
    → Letters m w
    → distance w heard ≤ p.w
    → Near p m heard (evaluated_of p m f)
near_word p m heard f w e l d =
    record {
      letters = subst (Letters m) (sym e) l;
      close = subst (λ v. distance v heard ≤ p.w) (sym e) d;
    }

module _ (p : Plan) (m : Meaning) (law : Lawful (operations m)) (same : p.size ≡ m.size) where
  abbrev o : Operations
  o = operations m

  abbrev R : CommRing (Elem o)
  R = element_ring o law

  β_high : (i : ℕ) → i < p.n → get_or (multipliers_of p) i 0 < m.size
  β_high i h = omega (arith, facts.multiplier_high p i h)

  β_low : (i : ℕ) → i < p.n → get_or (multipliers_of p) i 0 ≡ 0 → ⊥
  β_low i h e = omega (arith, facts.multiplier_low p i h)

  α_element : (i : ℕ) → i < p.n → get_or (support_of p) i 0 < m.size
  α_element i h = omega (arith, facts.element p i h)

  -- a letter over its multiplier is the value of the polynomial
  pub letter_value : (f : List ℕ) (i : ℕ) → i < p.n → quotient_of m (letter_of p m f i) (get_or (multipliers_of p) i 0) ≡ value_of m f (get_or (support_of p) i 0)
  letter_value f i h = back_scaled m law (get_or (multipliers_of p) i 0) (β_high i h) (β_low i h) _ (elementary.value_element m law f _)

  -- polynomials with the same word are the same
  pub one_word : (f g : List ℕ)
      → Polynomial m (p.n - p.t) f
      → Polynomial m (p.n - p.t) g
      → word_of p m f ≡ word_of p m g
      → f ≡ g
  one_word f g b c e = only.2 f (through f b (λ i h. sym (value_at i h))) ∙ sym (only.2 g (through g c (λ i h. same_value i h ∙ sym (value_at i h))))
    where
      values : List ℕ
      values = made (p.n - p.t) (λ i. value_of m f (get_or (support_of p) i 0))

      values_long : length values ≡ p.n - p.t
      values_long = length_made (λ i. value_of m f (get_or (support_of p) i 0)) (p.n - p.t)

      value_at : (i : ℕ) → i < p.n - p.t → get_or values i 0 ≡ value_of m f (get_or (support_of p) i 0)
      value_at i h = made_at (λ i. value_of m f (get_or (support_of p) i 0)) (p.n - p.t) i 0 h

      same_value : (i : ℕ) → i < p.n - p.t → value_of m g (get_or (support_of p) i 0) ≡ value_of m f (get_or (support_of p) i 0)
      same_value i h =
          let k : i < p.n = omega arith in
          sym (letter_value g i k)
          ∙ ap (λ x. quotient_of m x (get_or (multipliers_of p) i 0)) (sym (word_at p m g i k) ∙ ap (λ v. get_or v i 0) (sym e) ∙ word_at p m f i k)
          ∙ letter_value f i k

      only : (x : List ℕ)
          × Through m (support_of p) values x
          × ((y : List ℕ) → Through m (support_of p) values y → y ≡ x)
          × ((z : ℕ) → Element m z → value_of m x z ≡ nested_of m (support_of p) (coefficients_of m (support_of p) values) z)
      only =
          one_through
          m
          law
          (support_of p)
          values
          (λ i h. α_element i (omega (arith, facts.support_length p)))
          (λ i h. let k : i < p.n - p.t = omega (arith, values_long) in subst (λ x. x < m.size) (sym (value_at i k)) (elementary.value_element m law f _))
          (omega (arith, values_long, facts.support_length p))
          (λ i j l h. facts.distinct_elements p i j l (omega (arith, values_long)))

      through : (h : List ℕ) → Polynomial m (p.n - p.t) h → ((i : ℕ) → i < p.n - p.t → value_of m h (get_or (support_of p) i 0) ≡ get_or values i 0) → Through m (support_of p) values h
      through h b v =
          record {
            polynomial = (b.0 ∙ sym values_long, b.1);
            values = λ i k. v i (omega (arith, values_long));
          }

  -- the polynomial of a list of coefficients
  abbrev pub series : List ℕ → Series (Elem o)
  series f = elementary.polynomial m law f

  pub series_below : (f : List ℕ) → Polynomial m (p.n - p.t) f → Below R (suc (weight_of p)) (series f)
  series_below f b i h =
      ap (into o law) (get_or_past f i 0 (let e = b.0 in let k : p.t < p.n = p.t_high in omega arith)) ∙ into_zero o law

  -- where the word agrees with the word heard, the polynomial goes through the point
  pub goes_through : (f w heard : List ℕ) (i : ℕ)
      → Evaluates p m f w
      → i < p.n
      → get_or w i 0 ≡ get_or heard i 0
      → eval R (suc (weight_of p)) (series f) (points p m law i) ≡ ordinates p m law heard i
  goes_through f w heard i v h e =
      let long : suc (weight_of p) ≡ length f = let b = v.polynomial.0 in let k : p.t < p.n = p.t_high in omega arith in
      ap (λ d. eval R d (series f) (points p m law i)) long
      ∙ sym (elementary.value_into m law f (get_or (support_of p) i 0) (elementary.everywhere m (elementary.zero_is m law) f v.polynomial.1) (α_element i h))
      ∙ ap (into o law) (sym (letter_value f i h) ∙ ap (λ x. quotient_of m x (get_or (multipliers_of p) i 0)) (sym (v.values i h) ∙ e))

  -- the elements of a list of numbers
  abbrev pub lift : List ℕ → List (Elem o)
  lift f = map (into o law) f

  pub lift_series : (f : List ℕ) → from_list R (lift f) ≡ series f
  lift_series f = fun_ext (λ i. go i (cases_lt i (length f)))
    where
      go : (i : ℕ) → (i < length f) ⊎ (length f ≤ i) → from_list R (lift f) i ≡ series f i
      go i (inl h) = get_or-map (into o law) f i 0 R.zero h
      go i (inr h) =
          get_or_past (lift f) i R.zero (let e : length (lift f) ≡ length f = length-map f (into o law) in omega arith)
          ∙ sym (ap (into o law) (get_or_past f i 0 h) ∙ into_zero o law)

  pub numbers_lift : (f : List ℕ) → Elements m f → map (λ (a : Elem o). a.0) (lift f) ≡ f
  numbers_lift f es =
      let l : length (lift f) ≡ length f = length-map f (into o law) in
      let n : length (map (λ (a : Elem o). a.0) (lift f)) ≡ length (lift f) = length-map (lift f) (λ (a : Elem o). a.0) in
      ext_get_or
      0
      (map (λ (a : Elem o). a.0) (lift f))
      f
      (n ∙ l)
      (λ i h.
      let k : i < length f = omega arith in
      get_or-map (λ (a : Elem o). a.0) (lift f) i R.zero 0 (omega arith)
      ∙ ap (λ (a : Elem o). a.0) (get_or-map (into o law) f i 0 R.zero k)
      ∙ number_into o law (get_or f i 0) (es i k))
