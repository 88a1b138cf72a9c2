-- What the functions on polynomials in x and y say of polynomials over the field.
use Rattle.std.proofs.Common.{◌≡◌, ℕ, zero, suc, ◌<◌, ◌≤◌, min, ◌⊎◌, List, [], get_or, sym, refl, ap, ◌∙◌, subst, ap₂, inl, inr, arith}
use mathlib.Core.Path.{fun_ext}
use native.Mathlib.Decide.{ℕ_discrete}
use Rattle.std.proofs.lemmas.Bool.{cases_lt}
use Rattle.algebra.specs.Operations.{Operations, Lawful}
use Rattle.algebra.specs.Ring.{CommRing}
use Rattle.algebra.specs.Solver.{ring1, ring2, ring3, :0, ◌:+◌, ◌:*◌, ◌:-◌, :-◌, ◌:≡◌}
use Rattle.algebra.specs.Series.{constant, x_minus}
use Rattle.algebra.proofs.Coefficients.{constant_at_zero, constant_at_suc}
use Rattle.algebra.specs.Degree.{Below}
use Rattle.algebra.specs.Elements.{Elem, element_ring, into}
use Rattle.algebra.specs.Evaluation.{taylor}
use Rattle.algebra.specs.Bivariate.{scale, y_power}
use Rattle.algebra.specs.Conditions.{condition, discrepancy}
use Rattle.algebra.specs.Koetter.{less}
use Rattle.algebra.proofs.Elements.{into_zero, into_one}
use Rattle.algebra.proofs.Head.{is_less}
use Rattle.algebra.proofs.Taylor.{taylor_bound}
use Rattle.algebra.proofs.KoetterRefinement.{discrepancy_nested, is_x_minus, is_y_power}
use Rattle.field.specs.Meaning.{Meaning, operations, negative_of}
use Rattle.field.specs.Made.{made}
use Rattle.bivariate.specs.Horner.{entries, before, coefficient_of}
use Rattle.bivariate.specs.Combinations.{row_length, discrepancy_of, plus_of, minus_of, times_of, minus_polynomial_of, times_polynomial_of, y_power_of}
use Rattle.bivariate.specs.Lifted.{polynomial_of, PolynomialOf, RowOf, Within, Narrow, Spare, Sized}
use Rattle.bivariate.proofs.Steps.{before_zero, before_suc}
use Rattle.bivariate.proofs.FieldNumbers.{zero_element, sum_element, negative_element, into_negative_of, into_multiple}
use Rattle.bivariate.proofs.LiftedValues.{coefficient_lift, coefficient_element}
use Rattle.bivariate.proofs.Entries.{row_length_256, row_length_bound, plus_below, plus_above, plus_keeps, minus_as_plus, times_below, times_above, changed_below, changed_above}
use Rattle.bivariate.proofs.Monomials.{unit_at, unit_here, unit_other_row, unit_other_place}
use Rattle.field.proofs.Making.{made_at, made_past}

module _ (m : Meaning) (law : Lawful (operations m)) where
  abbrev o : Operations
  o = operations m

  abbrev R : CommRing (Elem o)
  R = element_ring o law

  open R use {zero as 𝟘, one as 𝟙, add as ◌+◌, mul as ◌*◌, neg as -◌}

  infixl 65 ◌+◌
  infixl 70 ◌*◌
  infix 75 -◌
  abbrev ι : ℕ → Elem o
  ι = into o law

  is_zero : (n : ℕ) → n ≡ 0 → ι n ≡ 𝟘
  is_zero n e = ap ι e ∙ into_zero o law

  is_element : (n k : ℕ) → n ≡ k → k < m.size → n < m.size
  is_element n k e h = subst (λ (x : ℕ). x < m.size) (sym e) h

  -- a row within its length is a polynomial of that degree
  pub within_below : (bound weight : ℕ) (q : List (List ℕ)) → Within bound weight q → (c : ℕ) → Below R (row_length bound weight c) (polynomial_of o law q c)
  within_below bound weight q w c i h = is_zero (get_or (get_or q c []) i 0) (w c i h)

  pub discrepancy_element : (q : List (List ℕ)) (l bound weight a b u r : ℕ) → discrepancy_of m q l bound weight a b u r < m.size
  unfolding discrepancy_of
  discrepancy_element q l bound weight a b u r = coefficient_element m law b _ (min l 8) u

  -- the number that the program computes is the discrepancy
  pub discrepancy_lift : (q : List (List ℕ)) (l bound weight a b u r : ℕ)
      → PolynomialOf o q
      → Within bound weight q
      → a < m.size
      → b < m.size
      → l ≤ 8
      → u < 8
      → r < 8
      → ι (discrepancy_of m q l bound weight a b u r)
      ≡ discrepancy R bound l (polynomial_of o law q) (condition (ι a) (ι b) u r)
  unfolding discrepancy_of
  discrepancy_lift q l bound weight a b u r es w ea eb hl hu hr =
      coefficient_lift m law b terms eb (λ c. coefficient_element m law a (entries (get_or q c [])) (row_length bound weight c) r) (min l 8) u hu
      ∙ ap₂ (λ n f. taylor R n f (ι b) u) clip (fun_ext term)
      ∙ sym (discrepancy_nested R bound l (polynomial_of o law q) (condition (ι a) (ι b) u r))
    where
      terms : ℕ → ℕ
      terms c = coefficient_of m a (entries (get_or q c [])) (row_length bound weight c) r

      clip : min l 8 ≡ l
      clip = omega arith

      term : (c : ℕ) → ι (coefficient_of m a (entries (get_or q c [])) (row_length bound weight c) r) ≡ taylor R bound (polynomial_of o law q c) (ι a) r
      term c =
          coefficient_lift m law a (entries (get_or q c [])) ea (es c) (row_length bound weight c) r hr
          ∙ sym
          (ap
          (λ f. f r)
          (taylor_bound
          R
          (row_length bound weight c)
          bound
          (polynomial_of o law q c)
          (ι a)
          (within_below bound weight q w c)
          (row_length_bound bound weight c)))

  module _ (k len : ℕ) (target source : List ℕ) (ek : k < m.size) (et : RowOf o target) (es : RowOf o source) (short : len ≤ 256) (t : (i : ℕ) → 256 ≤ i → get_or target i 0 ≡ 0) where
    -- target + k·source, where the source is zero from len on
    pub plus_lift : ((i : ℕ) → len ≤ i → get_or source i 0 ≡ 0)
        → (i : ℕ)
        → ι (get_or (plus_of m k len target source) i 0) ≡ ι (get_or target i 0) + ι k * ι (get_or source i 0)
    plus_lift s i = go (cases_lt i len)
      where
        go : (i < len) ⊎ (len ≤ i) → ι (get_or (plus_of m k len target source) i 0) ≡ ι (get_or target i 0) + ι k * ι (get_or source i 0)
        go (inl h) =
            ap ι (plus_below m k len target source i h (omega arith))
            ∙ into_multiple m law (get_or target i 0) k (get_or source i 0) (et i) ek (es i)
        go (inr h) =
            ap ι (plus_keeps m k len target source i h (t i))
            ∙ ring2 R (λ x y. x :≡ x :+ y :* :0) tt (ι (get_or target i 0)) (ι k)
            ∙ sym (ap (λ y. ι (get_or target i 0) + ι k * y) (is_zero (get_or source i 0) (s i h)))

    pub plus_element : RowOf o (plus_of m k len target source)
    plus_element i = go (cases_lt i len)
      where
        go : (i < len) ⊎ (len ≤ i) → get_or (plus_of m k len target source) i 0 < m.size
        go (inl h) = is_element _ _ (plus_below m k len target source i h (omega arith)) (sum_element m law _ _)
        go (inr h) = is_element _ _ (plus_keeps m k len target source i h (t i)) (et i)

  module _ (k len : ℕ) (target source : List ℕ) (ek : k < m.size) (et : RowOf o target) (es : RowOf o source) (short : len ≤ 256) (t : (i : ℕ) → 256 ≤ i → get_or target i 0 ≡ 0) where
    -- target − k·source, where the source is zero from len on
    pub minus_lift : ((i : ℕ) → len ≤ i → get_or source i 0 ≡ 0)
        → (i : ℕ)
        → ι (get_or (minus_of m k len target source) i 0) ≡ ι (get_or target i 0) + - (ι k * ι (get_or source i 0))
    minus_lift s i =
        ap (λ row. ι (get_or row i 0)) (minus_as_plus m k len target source)
        ∙ plus_lift (negative_of m k) len target source (negative_element m law k) et es short t s i
        ∙ ap (λ x. ι (get_or target i 0) + x * ι (get_or source i 0)) (into_negative_of m law k ek)
        ∙ ring3 R (λ t x s. t :+ (:- x) :* s :≡ t :- x :* s) tt (ι (get_or target i 0)) (ι k) (ι (get_or source i 0))

    pub minus_element : RowOf o (minus_of m k len target source)
    minus_element =
        subst
        (RowOf o)
        (sym (minus_as_plus m k len target source))
        (plus_element (negative_of m k) len target source (negative_element m law k) et es short t)

  -- a row within its length is zero past the end of the array
  pub within_array : (bound weight : ℕ) (q : List (List ℕ)) → Within bound weight q → (c i : ℕ) → 256 ≤ i → get_or (get_or q c []) i 0 ≡ 0
  within_array bound weight q w c i h = w c i (let k : row_length bound weight c ≤ 256 = row_length_256 bound weight c in omega arith)

  module _ (k l bound weight : ℕ) (target source : List (List ℕ)) (ek : k < m.size) (small : l ≤ 8) (et : PolynomialOf o target) (es : PolynomialOf o source) (wt : Within bound weight target) (ws : Within bound weight source) (nt : Narrow l target) where
    abbrev result : List (List ℕ)
    result = minus_polynomial_of m k l bound weight target source

    minus_row : (c : ℕ) → c < l → get_or result c [] ≡ plus_of m (negative_of m k) (row_length bound weight c) (get_or target c []) (get_or source c [])
    unfolding minus_polynomial_of
    minus_row c h =
        changed_below l (λ c row. minus_of m k (row_length bound weight c) row (get_or source c [])) target c h (omega arith)
        ∙ minus_as_plus m k (row_length bound weight c) (get_or target c []) (get_or source c [])

    minus_past : (c i : ℕ) → l ≤ c → get_or (get_or result c []) i 0 ≡ 0
    unfolding minus_polynomial_of
    minus_past c i h =
        changed_above l (λ c row. minus_of m k (row_length bound weight c) row (get_or source c [])) target c i h (nt c i h)

    -- the program subtracts a multiple of a polynomial from another
    pub subtract_lift : Narrow l source → polynomial_of o law result ≡ less R (polynomial_of o law target) (ι k) (polynomial_of o law source)
    subtract_lift ns = is_less R (polynomial_of o law result) (polynomial_of o law target) (ι k) (polynomial_of o law source) (λ c i. go c i (cases_lt c l))
      where
        go : (c i : ℕ) → (c < l) ⊎ (l ≤ c) → polynomial_of o law result c i ≡ polynomial_of o law target c i + - (ι k * polynomial_of o law source c i)
        go c i (inl h) =
            ap (λ row. ι (get_or row i 0)) (minus_row c h)
            ∙ plus_lift
            (negative_of m k)
            (row_length bound weight c)
            (get_or target c [])
            (get_or source c [])
            (negative_element m law k)
            (et c)
            (es c)
            (row_length_256 bound weight c)
            (within_array bound weight target wt c)
            (ws c)
            i
            ∙ ap (λ x. ι (get_or (get_or target c []) i 0) + x * ι (get_or (get_or source c []) i 0)) (into_negative_of m law k ek)
            ∙ ring3 R (λ t x s. t :+ (:- x) :* s :≡ t :- x :* s) tt (ι (get_or (get_or target c []) i 0)) (ι k) (ι (get_or (get_or source c []) i 0))
        go c i (inr h) =
            is_zero (get_or (get_or result c []) i 0) (minus_past c i h)
            ∙ ring1 R (λ x. :0 :≡ :0 :- x :* :0) tt (ι k)
            ∙ sym (ap₂ (λ x y. x + - (ι k * y)) (is_zero (get_or (get_or target c []) i 0) (nt c i h)) (is_zero (get_or (get_or source c []) i 0) (ns c i h)))

    pub subtract_elements : PolynomialOf o result
    subtract_elements c i = go (cases_lt c l)
      where
        go : (c < l) ⊎ (l ≤ c) → get_or (get_or result c []) i 0 < m.size
        go (inl h) =
            is_element
            _
            _
            (ap (λ row. get_or row i 0) (minus_row c h))
            (plus_element
            (negative_of m k)
            (row_length bound weight c)
            (get_or target c [])
            (get_or source c [])
            (negative_element m law k)
            (et c)
            (es c)
            (row_length_256 bound weight c)
            (within_array bound weight target wt c)
            i)
        go (inr h) = is_element _ _ (minus_past c i h) (zero_element m law)

    pub subtract_within : Within bound weight result
    subtract_within c i w = go (cases_lt c l)
      where
        go : (c < l) ⊎ (l ≤ c) → get_or (get_or result c []) i 0 ≡ 0
        go (inl h) =
            ap (λ row. get_or row i 0) (minus_row c h)
            ∙ plus_above m (negative_of m k) (row_length bound weight c) (get_or target c []) (get_or source c []) i w (wt c i w)
        go (inr h) = minus_past c i h

    pub subtract_narrow : Narrow l result
    subtract_narrow c i h = minus_past c i h

    pub subtract_sized : Sized o l bound weight result
    subtract_sized = record { elements = subtract_elements; within = subtract_within; narrow = subtract_narrow }

  module _ (a len : ℕ) (row : List ℕ) (ea : a < m.size) (es : RowOf o row) (short : len ≤ 256) (spare : (i : ℕ) → len ≤ suc i → get_or row i 0 ≡ 0) where
    before_element : (i : ℕ) → before 0 row i < m.size
    before_element zero = is_element _ _ (sym (before_zero 0 row)) (zero_element m law)
    before_element (suc i) = is_element _ _ (before_suc 0 row i) (es i)

    before_spare : (i : ℕ) → len ≤ i → before 0 row i ≡ 0
    before_spare zero h = sym (before_zero 0 row)
    before_spare (suc i) h = before_suc 0 row i ∙ spare i h

    -- each coefficient of (x − a)·row
    pub times_lift : (i : ℕ) → ι (get_or (times_of m a len row) i 0) ≡ ι (before 0 row i) + - (ι a * ι (get_or row i 0))
    times_lift i = go (cases_lt i len)
      where
        go : (i < len) ⊎ (len ≤ i) → ι (get_or (times_of m a len row) i 0) ≡ ι (before 0 row i) + - (ι a * ι (get_or row i 0))
        go (inl h) =
            ap ι (times_below m a len row i h (omega arith))
            ∙ into_multiple m law (before 0 row i) (negative_of m a) (get_or row i 0) (before_element i) (negative_element m law a) (es i)
            ∙ ap (λ x. ι (before 0 row i) + x * ι (get_or row i 0)) (into_negative_of m law a ea)
            ∙ ring3 R (λ t x s. t :+ (:- x) :* s :≡ t :- x :* s) tt (ι (before 0 row i)) (ι a) (ι (get_or row i 0))
        go (inr h) =
            is_zero (get_or (times_of m a len row) i 0) (times_above m a len row i h (spare i (omega arith)))
            ∙ ring1 R (λ x. :0 :≡ :0 :- x :* :0) tt (ι a)
            ∙ sym
            (ap₂
            (λ x y. x + - (ι a * y))
            (is_zero (before 0 row i) (before_spare i h))
            (is_zero (get_or row i 0) (spare i (omega arith))))

    pub times_element : RowOf o (times_of m a len row)
    times_element i = go (cases_lt i len)
      where
        go : (i < len) ⊎ (len ≤ i) → get_or (times_of m a len row) i 0 < m.size
        go (inl h) = is_element _ _ (times_below m a len row i h (omega arith)) (sum_element m law _ _)
        go (inr h) = is_element _ _ (times_above m a len row i h (spare i (omega arith))) (zero_element m law)

  module _ (a l bound weight : ℕ) (q : List (List ℕ)) (ea : a < m.size) (small : l ≤ 8) (es : PolynomialOf o q) (spare : Spare bound weight q) (narrow : Narrow l q) where
    abbrev product : List (List ℕ)
    product = times_polynomial_of m a l bound weight q

    product_row : (c : ℕ) → c < l → get_or product c [] ≡ times_of m a (row_length bound weight c) (get_or q c [])
    unfolding times_polynomial_of
    product_row c h = changed_below l (λ c row. times_of m a (row_length bound weight c) row) q c h (omega arith)

    product_past : (c i : ℕ) → l ≤ c → get_or (get_or product c []) i 0 ≡ 0
    unfolding times_polynomial_of
    product_past c i h = changed_above l (λ c row. times_of m a (row_length bound weight c) row) q c i h (narrow c i h)

    product_at : (c i : ℕ) → polynomial_of o law product c i ≡ ι (before 0 (get_or q c []) i) + - (ι a * polynomial_of o law q c i)
    product_at c i = go (cases_lt c l)
      where
        before_narrow : (i : ℕ) → l ≤ c → before 0 (get_or q c []) i ≡ 0
        before_narrow zero h = sym (before_zero 0 (get_or q c []))
        before_narrow (suc i) h = before_suc 0 (get_or q c []) i ∙ narrow c i h

        go : (c < l) ⊎ (l ≤ c) → polynomial_of o law product c i ≡ ι (before 0 (get_or q c []) i) + - (ι a * polynomial_of o law q c i)
        go (inl h) =
            ap (λ row. ι (get_or row i 0)) (product_row c h)
            ∙ times_lift a (row_length bound weight c) (get_or q c []) ea (es c) (row_length_256 bound weight c) (spare c) i
        go (inr h) =
            is_zero (get_or (get_or product c []) i 0) (product_past c i h)
            ∙ ring1 R (λ x. :0 :≡ :0 :- x :* :0) tt (ι a)
            ∙ sym
            (ap₂
            (λ x y. x + - (ι a * y))
            (is_zero (before 0 (get_or q c []) i) (before_narrow i h))
            (is_zero (get_or (get_or q c []) i 0) (narrow c i h)))

    -- the program multiplies a polynomial by x − a
    pub multiply_lift : polynomial_of o law product ≡ scale R (x_minus R (ι a)) (polynomial_of o law q)
    multiply_lift =
        is_x_minus
        R
        (polynomial_of o law product)
        (ι a)
        (polynomial_of o law q)
        (λ c.
        product_at c 0
        ∙ ap (λ x. x + - (ι a * polynomial_of o law q c 0)) (is_zero (before 0 (get_or q c []) 0) (sym (before_zero 0 (get_or q c []))))
        ∙ ring1 R (λ x. :0 :+ x :≡ x) tt (- (ι a * polynomial_of o law q c 0)))
        (λ c i. product_at c (suc i) ∙ ap (λ x. ι x + - (ι a * polynomial_of o law q c (suc i))) (before_suc 0 (get_or q c []) i))

    pub multiply_elements : PolynomialOf o product
    multiply_elements c i = go (cases_lt c l)
      where
        go : (c < l) ⊎ (l ≤ c) → get_or (get_or product c []) i 0 < m.size
        go (inl h) =
            is_element
            _
            _
            (ap (λ row. get_or row i 0) (product_row c h))
            (times_element a (row_length bound weight c) (get_or q c []) ea (es c) (row_length_256 bound weight c) (spare c) i)
        go (inr h) = is_element _ _ (product_past c i h) (zero_element m law)

    pub multiply_within : Within bound weight product
    multiply_within c i w = go (cases_lt c l)
      where
        go : (c < l) ⊎ (l ≤ c) → get_or (get_or product c []) i 0 ≡ 0
        go (inl h) =
            ap (λ row. get_or row i 0) (product_row c h)
            ∙ times_above m a (row_length bound weight c) (get_or q c []) i w (spare c i (omega arith))
        go (inr h) = product_past c i h

    pub multiply_narrow : Narrow l product
    multiply_narrow c i h = product_past c i h

    pub multiply_sized : Sized o l bound weight product
    multiply_sized = record { elements = multiply_elements; within = multiply_within; narrow = multiply_narrow }

  module _ (j : ℕ) where
    power_at : (c i : ℕ) → c < 8 → i < 256 → get_or (get_or (y_power_of j) c []) i 0 ≡ unit_at j c i
    unfolding y_power_of
    power_at c i h k =
        ap (λ row. get_or row i 0) (made_at (λ c. made 256 (unit_at j c)) 8 c [] h) ∙ made_at (unit_at j c) 256 i 0 k

    power_past_row : (c i : ℕ) → 8 ≤ c → get_or (get_or (y_power_of j) c []) i 0 ≡ 0
    unfolding y_power_of
    power_past_row c i h = ap (λ row. get_or row i 0) (made_past (λ c. made 256 (unit_at j c)) 8 c [] h)

    power_past : (c i : ℕ) → c < 8 → 256 ≤ i → get_or (get_or (y_power_of j) c []) i 0 ≡ 0
    unfolding y_power_of
    power_past c i h k =
        ap (λ row. get_or row i 0) (made_at (λ c. made 256 (unit_at j c)) 8 c [] h) ∙ made_past (unit_at j c) 256 i 0 k

    -- only the constant term of row j is not zero
    pub power_zero : (c i : ℕ) → ((c ≡ j) → (i ≡ 0) → ⊥) → get_or (get_or (y_power_of j) c []) i 0 ≡ 0
    power_zero c i ne = go (cases_lt c 8) (cases_lt i 256) (ℕ_discrete c j)
      where
        go : (c < 8) ⊎ (8 ≤ c) → (i < 256) ⊎ (256 ≤ i) → Dec (c ≡ j) → get_or (get_or (y_power_of j) c []) i 0 ≡ 0
        go (inr h) k d = power_past_row c i h
        go (inl h) (inr k) d = power_past c i h k
        go (inl h) (inl k) (yes e) = power_at c i h k ∙ unit_other_place j c i (ne e)
        go (inl h) (inl k) (no e) = power_at c i h k ∙ unit_other_row j c i e

    -- the program makes the power y^j
    pub y_power_lift : j < 8 → polynomial_of o law (y_power_of j) ≡ y_power R j
    y_power_lift h =
        is_y_power
        R
        (polynomial_of o law (y_power_of j))
        j
        one
        (λ c i e. is_zero (get_or (get_or (y_power_of j) c []) i 0) (power_zero c i (λ p q. e p)))
      where
        one : (i : ℕ) → polynomial_of o law (y_power_of j) j i ≡ constant R 𝟙 i
        one zero =
            ap ι (power_at j 0 h (omega arith) ∙ unit_here j j 0 refl refl) ∙ into_one o law ∙ sym (constant_at_zero R 𝟙)
        one (suc i) =
            is_zero (get_or (get_or (y_power_of j) j []) (suc i) 0) (power_zero j (suc i) (λ p q. absurd (omega arith))) ∙ sym (constant_at_suc R 𝟙 i)

    pub y_power_elements : PolynomialOf o (y_power_of j)
    y_power_elements c i = go (cases_lt c 8) (cases_lt i 256) (ℕ_discrete c j) (ℕ_discrete i 0)
      where
        go : (c < 8) ⊎ (8 ≤ c) → (i < 256) ⊎ (256 ≤ i) → Dec (c ≡ j) → Dec (i ≡ 0) → get_or (get_or (y_power_of j) c []) i 0 < m.size
        go (inr h) k d e = is_element _ _ (power_past_row c i h) (zero_element m law)
        go (inl h) (inr k) d e = is_element _ _ (power_past c i h k) (zero_element m law)
        go (inl h) (inl k) (no p) e = is_element _ _ (power_zero c i (λ x y. p x)) (zero_element m law)
        go (inl h) (inl k) (yes p) (no q) = is_element _ _ (power_zero c i (λ x y. q y)) (zero_element m law)
        go (inl h) (inl k) (yes p) (yes q) = is_element _ _ (power_at c i h k ∙ unit_here j c i p q) (omega (arith, law.two_elements))

    -- y^j is within any bound above its degree
    pub y_power_within : (bound weight : ℕ) → 0 < row_length bound weight j → Within bound weight (y_power_of j)
    y_power_within bound weight h c i w = power_zero c i (λ p q. let e : row_length bound weight c ≡ row_length bound weight j = ap (row_length bound weight) p in absurd (omega arith))

    pub y_power_narrow : (l : ℕ) → j < l → Narrow l (y_power_of j)
    y_power_narrow l h c i w = power_zero c i (λ p q. absurd (omega arith))

    pub y_power_sized : (l bound weight : ℕ) → j < l → 0 < row_length bound weight j → Sized o l bound weight (y_power_of j)
    y_power_sized l bound weight h k =
        record {
          elements = y_power_elements;
          within = y_power_within bound weight k;
          narrow = y_power_narrow l h;
        }
