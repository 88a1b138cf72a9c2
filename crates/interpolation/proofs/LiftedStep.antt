-- What one step of the program is over the elements of the field: a step of the method.
use Rattle.std.proofs.Common.{◌≡◌, ℕ, suc, ◌+◌, ◌*◌, ◌<◌, ◌≤◌, ltb, ◌⊎◌, List, [], length, get_or, set, Some, None, Option, unwrap_or, sym, refl, ap, ◌∙◌, subst, ap₂, subst₂, inl, inr, arith, get_or-set_other, get_or-set_same}
use native.Mathlib.Decide.{ℕ_discrete}
use Rattle.std.proofs.lemmas.Bool.{cases_lt, cond-true, lt-ltb, and_from}
use Rattle.algebra.specs.Operations.{Operations, Lawful}
use Rattle.algebra.specs.Ring.{CommRing, zero_mul}
use Rattle.algebra.proofs.Coefficients.{zero_at}
use Rattle.algebra.specs.Elements.{Elem, element_ring, elements, into}
use Rattle.algebra.specs.Conditions.{Condition, condition, discrepancy}
use Rattle.algebra.specs.Koetter.{State, Live, AtMost, less, Step, Invariant}
use Rattle.algebra.proofs.Elements.{into_zero, into_injective, into_inverse}
use Rattle.algebra.proofs.Head.{less_zero}
use Rattle.field.specs.Meaning.{Meaning, operations, product_of}
use Rattle.bivariate.specs.Combinations.{minus_polynomial_of, times_polynomial_of}
use Rattle.bivariate.specs.Lifted.{polynomial_of, PolynomialOf, Within, Narrow, Spare}
use Rattle.bivariate.proofs.FieldNumbers.{zero_element, product_element, into_product_of}
use Rattle.bivariate.proofs.LiftedCombinations.{discrepancy_element, discrepancy_lift, subtract_lift, subtract_elements, multiply_lift, multiply_elements}
use Rattle.interpolation.specs.Pivots.{Fails, Pivot}
use Rattle.interpolation.specs.Rows.{inverse_or_zero, discrepancies_of, cleared_row_of, reduced_of}
use Rattle.interpolation.specs.States.{state_of, RowsOf, Served, Stepped}
use Rattle.interpolation.proofs.Filling.{cleared_none}
use Rattle.interpolation.proofs.Reducing.{past_length, past_spare, live_at, dead_at, length_discrepancies, reduced_other, reduced_pivot, reduced_dead, reduced_past, cleared_by}

-- the inverse of an element that is not 0
pub inverse_some : (m : Meaning) (n : ℕ) → n < m.size → (n ≡ 0 → ⊥) → inverse_or_zero m n ≡ m.inverse n
unfolding inverse_or_zero
inverse_some m n h k =
    ap
    (λ x. unwrap_or x 0)
    (cond-true _ (Some (m.inverse n)) None (and_from (ltb 0 n) (ltb n m.size) (lt-ltb 0 n (omega arith)) (lt-ltb n m.size h)))

module _ (m : Meaning) (law : Lawful (operations m)) (a b u r l bound weight : ℕ) (rows : List (List (List ℕ))) (degrees : List ℕ) (cs : List (Condition (Elem (operations m)))) (served : Served m a b u r l bound) (es : RowsOf (operations m) rows) (inv : Invariant (element_ring (operations m) law) weight bound l cs (state_of (operations m) law rows degrees)) where
  abbrev o : Operations
  o = operations m

  abbrev R : CommRing (Elem o)
  R = element_ring o law

  abbrev ι : ℕ → Elem o
  ι = into o law

  abbrev st : State (Elem o)
  st = state_of o law rows degrees

  abbrev cn : Condition (Elem o)
  cn = condition (ι a) (ι b) u r

  abbrev ds : List ℕ
  ds = discrepancies_of m rows degrees l bound weight a b u r

  abbrev Δ : ℕ → Elem o
  Δ j = discrepancy R bound l (st.rows j) cn

  -- a number that stands for zero is 0
  back : (n : ℕ) → n < m.size → ι n ≡ R.zero → n ≡ 0
  back n h e = into_injective o law n 0 h (zero_element m law) (e ∙ sym (into_zero o law))

  -- a live row has no monomial above its degree
  weighted : (j : ℕ) → Live bound l st j → (c i : ℕ) → get_or degrees j 0 < i + weight * c → get_or (get_or (get_or rows j []) c []) i 0 ≡ 0
  weighted j k c i h =
      back
      (get_or (get_or (get_or rows j []) c []) i 0)
      (es j c i)
      ((inv.head j k).rest c i (omega arith, λ e. absurd (omega arith)))

  within : (j : ℕ) → Live bound l st j → Within bound weight (get_or rows j [])
  within j k c i h = weighted j k c i (past_length bound weight c i (get_or degrees j 0) served.short k.1 h)

  spare : (j : ℕ) → Live bound l st j → suc (get_or degrees j 0) < bound → Spare bound weight (get_or rows j [])
  spare j k up c i h = weighted j k c i (past_spare bound weight c i (get_or degrees j 0) served.short up h)

  narrow : (j : ℕ) → Live bound l st j → Narrow l (get_or rows j [])
  narrow j k c i h =
      back
      (get_or (get_or (get_or rows j []) c []) i 0)
      (es j c i)
      (ap (λ f. f i) (inv.narrow j k c h) ∙ zero_at R i)

  inside : (j : ℕ) → Live bound l st j → j < 8
  inside j k = let h : j < l = k.0 in let f : l ≤ 8 = served.few in omega arith

  -- the number is the discrepancy
  number : (j : ℕ) → Live bound l st j → ι (get_or ds j 0) ≡ Δ j
  number j k =
      ap ι (live_at m rows degrees l bound weight a b u r j (inside j k) k.0 k.1)
      ∙ discrepancy_lift
      m
      law
      (get_or rows j [])
      l
      bound
      weight
      a
      b
      u
      r
      (es j)
      (within j k)
      served.abscissa
      served.ordinate
      served.few
      served.exponent_y
      served.exponent_x

  number_element : (j : ℕ) → Live bound l st j → get_or ds j 0 < m.size
  number_element j k =
      subst
      (λ (n : ℕ). n < m.size)
      (sym (live_at m rows degrees l bound weight a b u r j (inside j k) k.0 k.1))
      (discrepancy_element m law (get_or rows j []) l bound weight a b u r)

  -- a live row that does not meet the condition fails by its numbers too
  failing : (j : ℕ) → Live bound l st j → (Δ j ≡ R.zero → ⊥) → Fails degrees ds l bound j
  failing j k f = (k.0, inside j k, k.1, λ e. f (sym (number j k) ∙ ap ι e ∙ into_zero o law))

  -- no row fails
  pub none_step : ((j : ℕ) → Fails degrees ds l bound j → ⊥) → Step (elements o law) bound l cn st st
  none_step none = inl (record { met = λ j k. met j k (ℕ_discrete (get_or ds j 0) 0); row = λ j k. refl; degree = λ j k. refl })
    where
      met : (j : ℕ) → Live bound l st j → Dec (get_or ds j 0 ≡ 0) → Δ j ≡ R.zero
      met j k (yes e) = sym (number j k) ∙ ap ι e ∙ into_zero o law
      met j k (no e) = absurd (none j (k.0, inside j k, k.1, e))

  module _ (p : ℕ) (fails : Fails degrees ds l bound p) (least : (j : ℕ) → Fails degrees ds l bound j → AtMost (get_or degrees p 0) p (get_or degrees j 0) j) (long : length degrees ≡ 8) where
    abbrev live : Live bound l st p
    live = (fails.0, fails.2)

    abbrev source : List (List ℕ)
    source = get_or rows p []

    abbrev factor : ℕ
    factor = inverse_or_zero m (get_or ds p 0)

    abbrev rows' : List (List (List ℕ))
    rows' = reduced_of m p ds degrees a l bound weight rows

    abbrev degrees' : List ℕ
    degrees' = set degrees p (get_or degrees p 0 + 1)

    factor_is : factor ≡ m.inverse (get_or ds p 0)
    factor_is = inverse_some m (get_or ds p 0) (number_element p live) fails.3

    factor_element : factor < m.size
    factor_element =
        subst
        (λ (n : ℕ). n < m.size)
        (sym factor_is)
        (law.inverse_closed (get_or ds p 0) (number_element p live) fails.3)

    factor_lift : ι factor ≡ (elements o law).inv (Δ p)
    factor_lift =
        ap ι factor_is
        ∙ into_inverse o law (get_or ds p 0) (number_element p live) fails.3
        ∙ ap (elements o law).inv (number p live)

    multiple_lift : (j : ℕ) → Live bound l st j → ι (product_of m (get_or ds j 0) factor) ≡ R.mul (Δ j) ((elements o law).inv (Δ p))
    multiple_lift j k =
        into_product_of m law (get_or ds j 0) factor (number_element j k) factor_element
        ∙ ap₂ R.mul (number j k) factor_lift

    at_other : (j : ℕ) → j < 8 → (j ≡ p → ⊥) → get_or rows' j [] ≡ cleared_row_of m source factor l bound weight (get_or ds j 0) (get_or rows j [])
    at_other j h ne = reduced_other m p ds degrees a l bound weight rows fails.1 (length_discrepancies m rows degrees l bound weight a b u r) j h ne

    -- a row whose discrepancy is 0 stays
    at_kept : (j : ℕ) → j < 8 → (j ≡ p → ⊥) → get_or ds j 0 ≡ 0 → get_or rows' j [] ≡ get_or rows j []
    at_kept j h ne e =
        at_other j h ne ∙ sym (cleared_none m source factor l bound weight (get_or ds j 0) (get_or rows j []) e)

    at_cleared : (j : ℕ) → j < 8 → (j ≡ p → ⊥) → (get_or ds j 0 ≡ 0 → ⊥) → get_or rows' j [] ≡ minus_polynomial_of m (product_of m (get_or ds j 0) factor) l bound weight (get_or rows j []) source
    at_cleared j h ne e =
        at_other j h ne ∙ cleared_by m source factor l bound weight (get_or ds j 0) (get_or rows j []) e

    at_pivot : get_or degrees p 0 + 1 < bound → get_or rows' p [] ≡ times_polynomial_of m a l bound weight source
    at_pivot h = reduced_pivot m p ds degrees a l bound weight rows fails.1 (length_discrepancies m rows degrees l bound weight a b u r) h

    other_row : (j : ℕ)
        → Live bound l st j
        → (j ≡ p → ⊥)
        → Dec (get_or ds j 0 ≡ 0)
        → polynomial_of o law (get_or rows' j []) ≡ less R (st.rows j) (R.mul (Δ j) ((elements o law).inv (Δ p))) (st.rows p)
    other_row j k ne (yes e) =
        ap (polynomial_of o law) (at_kept j (inside j k) ne e)
        ∙ sym
        (ap
        (λ x. less R (st.rows j) x (st.rows p))
        (ap (λ x. R.mul x ((elements o law).inv (Δ p))) (sym (number j k) ∙ ap ι e ∙ into_zero o law)
        ∙ zero_mul R ((elements o law).inv (Δ p)))
        ∙ less_zero R (st.rows j) (st.rows p))
    other_row j k ne (no e) =
        ap (polynomial_of o law) (at_cleared j (inside j k) ne e)
        ∙ subtract_lift
        m
        law
        (product_of m (get_or ds j 0) factor)
        l
        bound
        weight
        (get_or rows j [])
        source
        (product_element m law (get_or ds j 0) factor)
        served.few
        (es j)
        (es p)
        (within j k)
        (within p live)
        (narrow j k)
        (narrow p live)
        ∙ ap (λ x. less R (st.rows j) x (st.rows p)) (multiple_lift j k)

    -- the program's step with the pivot p is one of the method
    pub pivot_step : Step (elements o law) bound l cn st (state_of o law rows' degrees')
    pivot_step =
        inr (
          p,
          record {
            live = live;
            fails = λ e. fails.3 (back (get_or ds p 0) (number_element p live) (number p live ∙ e));
            least = λ j k f. least j (failing j k f);
            row = λ j k ne. other_row j k ne (ℕ_discrete (get_or ds j 0) 0);
            degree = λ j k ne. get_or-set_other degrees p j (get_or degrees p 0 + 1) 0 ne;
            pivot_row = λ h.
                ap (polynomial_of o law) (at_pivot (omega arith))
                ∙ multiply_lift m law a l bound weight source served.abscissa served.few (es p) (spare p live h) (narrow p live);
            pivot_degree = let k : p < length degrees = (let q : p < 8 = fails.1 in omega arith) in
                let q : get_or degrees p 0 + 1 ≡ suc (get_or degrees p 0) = omega arith in
                get_or-set_same degrees p (get_or degrees p 0 + 1) 0 k ∙ q;
          },
        )

    elements_as : (q q' : List (List ℕ)) → q ≡ q' → PolynomialOf o q' → PolynomialOf o q
    elements_as q q' e h = subst (PolynomialOf o) (sym e) h

    -- and its rows hold elements
    pub pivot_elements : RowsOf o rows'
    pivot_elements j = go (cases_lt j 8) (ℕ_discrete j p)
      where
        pivot : (get_or degrees p 0 + 1 < bound) ⊎ (bound ≤ get_or degrees p 0 + 1) → PolynomialOf o (get_or rows' p [])
        pivot (inl h) =
            elements_as
            _
            _
            (at_pivot h)
            (multiply_elements m law a l bound weight source served.abscissa served.few (es p) (spare p live (omega arith)) (narrow p live))
        pivot (inr h) =
            elements_as
            _
            _
            (reduced_dead m p ds degrees a l bound weight rows fails.1 (length_discrepancies m rows degrees l bound weight a b u r) h)
            (es p)

        cleared : (h : j < 8) → (j ≡ p → ⊥) → (get_or ds j 0 ≡ 0 → ⊥) → (j < l) ⊎ (l ≤ j) → (get_or degrees j 0 < bound) ⊎ (bound ≤ get_or degrees j 0) → PolynomialOf o (get_or rows' j [])
        cleared h ne e (inl x) (inl y) =
            elements_as
            _
            _
            (at_cleared j h ne e)
            (subtract_elements
            m
            law
            (product_of m (get_or ds j 0) factor)
            l
            bound
            weight
            (get_or rows j [])
            source
            (product_element m law (get_or ds j 0) factor)
            served.few
            (es j)
            (es p)
            (within j (x, y))
            (within p live)
            (narrow j (x, y)))
        cleared h ne e (inl x) (inr y) = absurd (e (dead_at m rows degrees l bound weight a b u r j h (λ s t. omega arith)))
        cleared h ne e (inr x) y = absurd (e (dead_at m rows degrees l bound weight a b u r j h (λ s t. omega arith)))

        other : (h : j < 8) → (j ≡ p → ⊥) → Dec (get_or ds j 0 ≡ 0) → PolynomialOf o (get_or rows' j [])
        other h ne (yes e) = elements_as _ _ (at_kept j h ne e) (es j)
        other h ne (no e) = cleared h ne e (cases_lt j l) (cases_lt (get_or degrees j 0) bound)

        go : (j < 8) ⊎ (8 ≤ j) → Dec (j ≡ p) → PolynomialOf o (get_or rows' j [])
        go (inr h) d =
            elements_as
            _
            []
            (reduced_past m p ds degrees a l bound weight rows fails.1 (length_discrepancies m rows degrees l bound weight a b u r) j h)
            (λ c i. zero_element m law)
        go (inl h) (yes e) =
            elements_as
            (get_or rows' j [])
            (get_or rows' p [])
            (ap (λ k. get_or rows' k []) e)
            (pivot (cases_lt (get_or degrees p 0 + 1) bound))
        go (inl h) (no e) = other h e (ℕ_discrete (get_or ds j 0) 0)

-- the program's step where there is no pivot
pub step_none : (m : Meaning) (a b u r l bound weight : ℕ) (rows : List (List (List ℕ))) (degrees failing : List ℕ) (answer : Option ℕ)
    → failing ≡ discrepancies_of m rows degrees l bound weight a b u r
    → Pivot degrees failing l bound answer
    → answer ≡ None
    → Stepped m a b u r l bound weight rows degrees rows degrees
step_none m a b u r l bound weight rows degrees failing answer e pivot is =
    let none = (subst (λ ds. Pivot degrees ds l bound answer) e pivot).none is in
    record {
      step = λ law cs served es inv. none_step m law a b u r l bound weight rows degrees cs served es inv none;
      elements = λ law cs served es inv. es;
    }

-- the program's step with a pivot
pub step_some : (m : Meaning) (a b u r l bound weight : ℕ) (rows : List (List (List ℕ))) (degrees failing : List ℕ) (answer : Option ℕ) (p : ℕ) (rows' : List (List (List ℕ))) (degrees' : List ℕ)
    → length degrees ≡ 8
    → failing ≡ discrepancies_of m rows degrees l bound weight a b u r
    → Pivot degrees failing l bound answer
    → answer ≡ Some p
    → rows' ≡ reduced_of m p failing degrees a l bound weight rows
    → degrees' ≡ set degrees p (get_or degrees p 0 + 1)
    → Stepped m a b u r l bound weight rows degrees rows' degrees'
step_some m a b u r l bound weight rows degrees failing answer p rows' degrees' long e pivot is er ed =
    let own : Pivot degrees (discrepancies_of m rows degrees l bound weight a b u r) l bound answer = subst (λ ds. Pivot degrees ds l bound answer) e pivot in
    let rs : rows' ≡ reduced_of m p (discrepancies_of m rows degrees l bound weight a b u r) degrees a l bound weight rows
    = er ∙ ap (λ ds. reduced_of m p ds degrees a l bound weight rows) e in
    subst₂
    (λ x y. Stepped m a b u r l bound weight rows degrees x y)
    (sym rs)
    (sym ed)
    (record {
      step = λ law cs served es inv. pivot_step m law a b u r l bound weight rows degrees cs served es inv p (own.fails p is) (own.least p is) long;
      elements = λ law cs served es inv. pivot_elements m law a b u r l bound weight rows degrees cs served es inv p (own.fails p is) (own.least p is) long;
    })
