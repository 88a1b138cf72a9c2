-- What the functions of the search for roots say of polynomials over the field.
use Rattle.std.proofs.Common.{◌≡◌, ℕ, zero, suc, ◌-◌, ◌<◌, ◌≤◌, min, true, false, ◌⊎◌, List, [], get_or, sym, refl, ap, ◌∙◌, subst, ap₂, inl, inr, arith}
use mathlib.Core.Path.{fun_ext}
use Prim.Native.Nat
use Rattle.std.proofs.lemmas.Bool.{cases_lt, both_ways}
use Rattle.algebra.specs.Operations.{Operations, Lawful}
use Rattle.algebra.specs.Ring.{CommRing}
use Rattle.algebra.specs.Solver.{ring2, :0, ◌:+◌, ◌:*◌, ◌:≡◌}
use Rattle.algebra.specs.Series.{Series, tail}
use Rattle.algebra.proofs.Coefficients.{zero_at}
use Rattle.algebra.specs.Elements.{Elem, element_ring, into}
use Rattle.algebra.specs.Evaluation.{eval, taylor}
use Rattle.algebra.specs.Bivariate.{Bivariate}
use Rattle.algebra.specs.RootSearch.{Vanish, at_zero, Candidate, next, at_constant}
use Rattle.algebra.specs.RootSearch as search
use Rattle.algebra.proofs.Elements.{into_zero, into_injective}
use Rattle.algebra.proofs.Taylor.{taylor_suc_at_zero, taylor_suc_at_suc}
use Rattle.algebra.proofs.RootSteps.{next_start}
use Rattle.algebra.proofs.Columns.{next_shifted}
use Rattle.field.specs.Meaning.{Meaning, operations}
use Rattle.bivariate.specs.Combinations.{row_length, plus_of}
use Rattle.bivariate.specs.Roots.{column, all_zero, lower_of, column_value_of, shift_step_of, shift_of, raise_of, shifted_of}
use Rattle.bivariate.specs.Lifted.{polynomial_of, PolynomialOf, Within, Narrow, Sized, Room}
use Rattle.bivariate.proofs.Searching.{all_zero_at, all_zero_from, shift_zero, shift_suc}
use Rattle.bivariate.proofs.FieldNumbers.{zero_element}
use Rattle.bivariate.proofs.LiftedValues.{value_lift, value_element}
use Rattle.bivariate.proofs.LiftedCombinations.{plus_lift, plus_element, within_array}
use Rattle.bivariate.proofs.Entries.{row_length_256, row_length_falls, row_length_raised, plus_keeps, step_before, step_inside, step_after, raise_below, raise_inside, raise_past, raised_row, raised_past, lowered_row, lowered_past, lower_entry}

module _ (m : Meaning) (law : Lawful (operations m)) where
  abbrev o : Operations
  o = operations m

  abbrev R : CommRing (Elem o)
  R = element_ring o law

  open R use {zero as 𝟘, one as 𝟙, add as ◌+◌, mul as ◌*◌, neg as -◌}

  infixl 65 ◌+◌
  infixl 70 ◌*◌
  infix 75 -◌
  abbrev ι : ℕ → Elem o
  ι = into o law

  abbrev P : List (List ℕ) → Bivariate (Elem o)
  P = polynomial_of o law

  is_zero : (n : ℕ) → n ≡ 0 → ι n ≡ 𝟘
  is_zero n e = ap ι e ∙ into_zero o law

  from_zero : (n : ℕ) → n < m.size → ι n ≡ 𝟘 → n ≡ 0
  from_zero n h e = into_injective o law n 0 h (zero_element m law) (e ∙ sym (into_zero o law))

  is_element : (n k : ℕ) → n ≡ k → k < m.size → n < m.size
  is_element n k e h = subst (λ (x : ℕ). x < m.size) (sym e) h

  -- numbers that are all zero
  pub all_zero_vanish : (f : ℕ → ℕ) (n : ℕ) → all_zero f n ≡ true → Vanish R n (λ i. ι (f i))
  all_zero_vanish f n e i h = is_zero (f i) (all_zero_at f n i e h)

  pub all_zero_no_vanish : (f : ℕ → ℕ) (n : ℕ)
      → ((i : ℕ) → f i < m.size)
      → all_zero f n ≡ false
      → Vanish R n (λ i. ι (f i))
      → ⊥
  all_zero_no_vanish f n es e v = both_ways (all_zero f n) e (all_zero_from f n (λ i h. from_zero (f i) (es i) (v i h)))

  clip : (l n : ℕ) → l ≤ n → min l n ≡ l
  clip l n h = omega arith

  module _ (q : List (List ℕ)) (l : ℕ) (small : l ≤ 8) (es : PolynomialOf o q) where
    -- the answer yes: x divides the polynomial
    pub starts_lift : all_zero (column q 0) (min l 8) ≡ true → Vanish R l (at_zero (P q))
    starts_lift e = all_zero_vanish (column q 0) l (ap (all_zero (column q 0)) (sym (clip l 8 small)) ∙ e)

    -- the answer no: x does not divide it
    pub starts_lift_no : all_zero (column q 0) (min l 8) ≡ false → Vanish R l (at_zero (P q)) → ⊥
    starts_lift_no e =
        all_zero_no_vanish (column q 0) l (λ c. es c 0) (ap (all_zero (column q 0)) (sym (clip l 8 small)) ∙ e)

    module _ (g : ℕ) (eg : g < m.size) where
      -- the coefficients of q(x, g)
      pub column_value_lift : (i : ℕ) → ι (column_value_of m g l q i) ≡ at_constant R l (P q) (ι g) i
      unfolding column_value_of
      column_value_lift i =
          value_lift m law g (column q i) eg (λ c. es c i) (min l 8)
          ∙ ap (λ n. eval R n (λ c. P q c i) (ι g)) (clip l 8 small)

      pub column_value_element : (i : ℕ) → column_value_of m g l q i < m.size
      unfolding column_value_of
      column_value_element i = value_element m law g (column q i) eg (λ c. es c i) (min l 8)

      -- g is a candidate where q(0, g) is 0
      pub candidate_lift : column_value_of m g l q 0 ≡ 0 → Candidate R l (P q) (ι g)
      candidate_lift e = sym (column_value_lift 0) ∙ is_zero (column_value_of m g l q 0) e

      pub candidate_lift_no : (column_value_of m g l q 0 ≡ 0 → ⊥) → Candidate R l (P q) (ι g) → ⊥
      candidate_lift_no h e = h (from_zero (column_value_of m g l q 0) (column_value_element 0) (column_value_lift 0 ∙ e))

      -- the answer yes: the first coefficients of q(x, g) are zero
      pub vanishes_lift : (bound : ℕ)
          → bound ≤ 256
          → all_zero (column_value_of m g l q) (min bound 256) ≡ true
          → Vanish R bound (at_constant R l (P q) (ι g))
      vanishes_lift bound h e i k =
          sym (column_value_lift i)
          ∙ all_zero_vanish (column_value_of m g l q) bound (ap (all_zero (column_value_of m g l q)) (sym (clip bound 256 h)) ∙ e) i k

      -- the answer no: they are not all zero
      pub vanishes_lift_no : (bound : ℕ)
          → bound ≤ 256
          → all_zero (column_value_of m g l q) (min bound 256) ≡ false
          → Vanish R bound (at_constant R l (P q) (ι g))
          → ⊥
      vanishes_lift_no bound h e v =
          all_zero_no_vanish
          (column_value_of m g l q)
          bound
          column_value_element
          (ap (all_zero (column_value_of m g l q)) (sym (clip bound 256 h)) ∙ e)
          (λ i k. column_value_lift i ∙ v i k)

  module _ (q : List (List ℕ)) (l bound weight : ℕ) (small : l ≤ 8) (w : Within bound weight q) (narrow : Narrow l q) where
    lower_at_entry : (c i : ℕ) → get_or (get_or (lower_of q) c []) i 0 ≡ get_or (get_or q c []) (suc i) 0
    lower_at_entry c i = go (cases_lt c 8)
      where
        go : (c < 8) ⊎ (8 ≤ c) → get_or (get_or (lower_of q) c []) i 0 ≡ get_or (get_or q c []) (suc i) 0
        go (inl h) =
            ap (λ row. get_or row i 0) (lowered_row q c h)
            ∙ lower_entry (get_or q c []) i (λ k. within_array m law bound weight q w c (suc i) (omega arith))
        go (inr h) = lowered_past q c i h (narrow c i (omega arith)) ∙ sym (narrow c (suc i) (omega arith))

    -- the program divides the polynomial by x
    pub lower_lift : P (lower_of q) ≡ search.lower (P q)
    lower_lift = fun_ext (λ c. fun_ext (λ i. ap ι (lower_at_entry c i)))

    pub lower_elements : PolynomialOf o q → PolynomialOf o (lower_of q)
    lower_elements es c i = is_element _ _ (lower_at_entry c i) (es c (suc i))

    pub lower_within : Within (bound - 1) weight (lower_of q)
    unfolding row_length
    lower_within c i h = lower_at_entry c i ∙ w c (suc i) (let k : ℕ = Nat.◌*◌ c weight in omega arith)

    pub lower_narrow : Narrow l (lower_of q)
    lower_narrow c i h = lower_at_entry c i ∙ narrow c (suc i) h

    pub lower_sized : PolynomialOf o q → Sized o l (bound - 1) weight (lower_of q)
    lower_sized es = record { elements = lower_elements es; within = lower_within; narrow = lower_narrow }

  module _ (g l bound weight : ℕ) (eg : g < m.size) (small : l ≤ 8) where
    module _ (n : ℕ) (q : List (List ℕ)) (few : n ≤ 8) (sized : Sized o l bound weight q) where
      abbrev stepped : List (List ℕ)
      stepped = shift_step_of m g l bound weight n q

      past : (r i : ℕ) → 256 ≤ i → get_or (get_or q r []) i 0 ≡ 0
      past r = within_array m law bound weight q sized.within r

      -- rows before n are as they were
      step_lift_before : (r i : ℕ) → r < n → P stepped r i ≡ P q r i
      step_lift_before r i h = ap (λ row. ι (get_or row i 0)) (step_before m g l bound weight n q r h (omega arith))

      -- each other row takes in g times the next
      step_lift : (r i : ℕ) → n ≤ r → P stepped r i ≡ P q r i + ι g * P q (suc r) i
      step_lift r i h = go (cases_lt (suc r) l)
        where
          go : (suc r < l) ⊎ (l ≤ suc r) → P stepped r i ≡ P q r i + ι g * P q (suc r) i
          go (inl k) =
              ap (λ row. ι (get_or row i 0)) (step_inside m g l bound weight n q r h k small)
              ∙ plus_lift
              m
              law
              g
              (row_length bound weight (suc r))
              (get_or q r [])
              (get_or q (suc r) [])
              eg
              (sized.elements r)
              (sized.elements (suc r))
              (row_length_256 bound weight (suc r))
              (past r)
              (sized.within (suc r))
              i
          go (inr k) =
              ap ι (step_after m g l bound weight n q r i h k (λ e. sized.narrow r i (omega arith)))
              ∙ ring2 R (λ x y. x :≡ x :+ y :* :0) tt (P q r i) (ι g)
              ∙ sym (ap (λ y. P q r i + ι g * y) (is_zero (get_or (get_or q (suc r) []) i 0) (sized.narrow (suc r) i k)))

      -- an entry is as it was, or its row has taken in the next
      abbrev Entry : ℕ → ℕ → Type 0
      Entry r i =
          (get_or (get_or stepped r []) i 0 ≡ get_or (get_or q r []) i 0)
          ⊎ ((suc r < l) × (get_or stepped r [] ≡ plus_of m g (row_length bound weight (suc r)) (get_or q r []) (get_or q (suc r) [])))

      entry_cases : (r i : ℕ) → Entry r i
      entry_cases r i = go (cases_lt r n) (cases_lt (suc r) l)
        where
          go : (r < n) ⊎ (n ≤ r) → (suc r < l) ⊎ (l ≤ suc r) → Entry r i
          go (inl h) k = inl (ap (λ row. get_or row i 0) (step_before m g l bound weight n q r h (omega arith)))
          go (inr h) (inl k) = inr (k, step_inside m g l bound weight n q r h k small)
          go (inr h) (inr k) = inl (step_after m g l bound weight n q r i h k (λ e. sized.narrow r i (omega arith)))

      step_sized : Sized o l bound weight stepped
      step_sized =
          record {
            elements = λ r i. element r i (entry_cases r i);
            within = λ r i h. inside r i h (entry_cases r i);
            narrow = λ r i h. outside r i h (entry_cases r i);
          }
        where
          element : (r i : ℕ) → Entry r i → get_or (get_or stepped r []) i 0 < m.size
          element r i (inl e) = is_element _ _ e (sized.elements r i)
          element r i (inr e) =
              is_element
              _
              _
              (ap (λ row. get_or row i 0) e.1)
              (plus_element
              m
              law
              g
              (row_length bound weight (suc r))
              (get_or q r [])
              (get_or q (suc r) [])
              eg
              (sized.elements r)
              (sized.elements (suc r))
              (row_length_256 bound weight (suc r))
              (past r)
              i)

          inside : (r i : ℕ) → row_length bound weight r ≤ i → Entry r i → get_or (get_or stepped r []) i 0 ≡ 0
          inside r i h (inl e) = e ∙ sized.within r i h
          inside r i h (inr e) =
              let k : row_length bound weight (suc r) ≤ row_length bound weight r = row_length_falls bound weight r in
              ap (λ row. get_or row i 0) e.1
              ∙ plus_keeps m g (row_length bound weight (suc r)) (get_or q r []) (get_or q (suc r) []) i (omega arith) (past r i)
              ∙ sized.within r i h

          outside : (r i : ℕ) → l ≤ r → Entry r i → get_or (get_or stepped r []) i 0 ≡ 0
          outside r i h (inl e) = e ∙ sized.narrow r i h
          outside r i h (inr e) = absurd (let k : suc r < l = e.0 in omega arith)

    pub shift_sized : (n : ℕ) (q : List (List ℕ)) → n ≤ 8 → Sized o l bound weight q → Sized o l bound weight (shift_of m g l bound weight n q)
    shift_sized zero q h s = subst (Sized o l bound weight) (sym (shift_zero m g l bound weight q)) s
    shift_sized (suc n) q h s =
        subst
        (Sized o l bound weight)
        (sym (shift_suc m g l bound weight n q))
        (shift_sized n (shift_step_of m g l bound weight n q) (omega arith) (step_sized n q (omega arith) s))

    module _ (Q : Bivariate (Elem o)) where
      -- the coefficients of x^i from the power n of y on
      abbrev from : ℕ → ℕ → Series (Elem o)
      from n i k = Q (Nat.◌+◌ n k) i

      from_tail : (n i : ℕ) → tail (from n i) ≡ from (suc n) i
      from_tail n i = fun_ext (λ k. let e : Nat.◌+◌ n (suc k) ≡ Nat.◌+◌ (suc n) k = omega arith in ap (λ j. Q j i) e)

      -- after the steps down to n: the rows from n on are the expansion of those rows, and the others are as they were
      pub record Reached (n d : ℕ) (S : Bivariate (Elem o)) : Type 0 where
        pub done : (r i : ℕ) → S (Nat.◌+◌ n r) i ≡ taylor R d (from n i) (ι g) r
        pub left : (r i : ℕ) → r < n → S r i ≡ Q r i

      reach : (n d : ℕ) (S S' : Bivariate (Elem o))
          → ((r i : ℕ) → r < n → S' r i ≡ S r i)
          → ((r i : ℕ) → n ≤ r → S' r i ≡ S r i + ι g * S (suc r) i)
          → Reached (suc n) d S
          → Reached n (suc d) S'
      reach n d S S' same step h =
          record {
            done = done;
            left = λ r i k. same r i k ∙ h.left r i (omega arith);
          }
        where
          -- row n + r + 1 before the step
          above : (r i : ℕ) (j : ℕ) → j ≡ Nat.◌+◌ (suc n) r → S j i ≡ taylor R d (tail (from n i)) (ι g) r
          above r i j e = ap (λ k. S k i) e ∙ h.done r i ∙ ap (λ f. taylor R d f (ι g) r) (sym (from_tail n i))

          done : (r i : ℕ) → S' (Nat.◌+◌ n r) i ≡ taylor R (suc d) (from n i) (ι g) r
          done zero i =
              let e : Nat.◌+◌ n 0 ≡ n = omega arith in
              step (Nat.◌+◌ n 0) i (omega arith)
              ∙ ap₂
              (λ x y. x + ι g * y)
              (h.left (Nat.◌+◌ n 0) i (omega arith))
              (above 0 i (suc (Nat.◌+◌ n 0)) (omega arith))
              ∙ sym (taylor_suc_at_zero R d (from n i) (ι g))
          done (suc r) i =
              step (Nat.◌+◌ n (suc r)) i (omega arith)
              ∙ ap₂
              (λ x y. x + ι g * y)
              (above r i (Nat.◌+◌ n (suc r)) (omega arith))
              (above (suc r) i (suc (Nat.◌+◌ n (suc r))) (omega arith))
              ∙ R.add_comm (taylor R d (tail (from n i)) (ι g) r) (ι g * taylor R d (tail (from n i)) (ι g) (suc r))
              ∙ sym (taylor_suc_at_suc R d (from n i) (ι g) r)

      reach_all : (n d : ℕ) (q : List (List ℕ))
          → n ≤ 8
          → Sized o l bound weight q
          → Nat.◌+◌ d n ≡ l
          → Reached n d (P q)
          → (r i : ℕ)
          → P (shift_of m g l bound weight n q) r i ≡ taylor R l (λ k. Q k i) (ι g) r
      reach_all zero d q h s e k r i =
          let a : Nat.◌+◌ 0 r ≡ r = omega arith in
          let b : d ≡ l = omega arith in
          ap (λ p. P p r i) (shift_zero m g l bound weight q)
          ∙ ap (λ j. P q j i) (sym a)
          ∙ k.done r i
          ∙ ap₂
          (λ x f. taylor R x f (ι g) r)
          b
          (fun_ext (λ j. let c : Nat.◌+◌ 0 j ≡ j = omega arith in ap (λ t. Q t i) c))
      reach_all (suc n) d q h s e k r i =
          ap (λ p. P p r i) (shift_suc m g l bound weight n q)
          ∙ reach_all
          n
          (suc d)
          (shift_step_of m g l bound weight n q)
          (omega arith)
          (step_sized n q (omega arith) s)
          (omega arith)
          (reach
          n
          d
          (P q)
          (P (shift_step_of m g l bound weight n q))
          (step_lift_before n q (omega arith) s)
          (step_lift n q (omega arith) s)
          k)
          r
          i

    module _ (q : List (List ℕ)) (sized : Sized o l bound weight q) where
      abbrev expanded : List (List ℕ)
      expanded = shift_of m g l bound weight (min l 8) q

      expanded_sized : Sized o l bound weight expanded
      expanded_sized = shift_sized (min l 8) q (omega arith) sized

      -- the program expands the polynomial at y = g
      pub expanded_lift : (r i : ℕ) → P expanded r i ≡ taylor R l (λ k. P q k i) (ι g) r
      expanded_lift r i =
          reach_all
          (P q)
          (min l 8)
          0
          q
          (omega arith)
          sized
          (omega arith)
          (record {
            done = λ r i. is_zero (get_or (get_or q (Nat.◌+◌ (min l 8) r) []) i 0) (sized.narrow (Nat.◌+◌ (min l 8) r) i (omega arith)) ∙ sym (zero_at R r);
            left = λ r i h. refl;
          })
          r
          i

      raised_is : shifted_of m g l bound weight q ≡ raise_of expanded
      unfolding shifted_of
      raised_is = refl

      -- what stands in the result
      shifted_start : (c i : ℕ) → i < c → get_or (get_or (raise_of expanded) c []) i 0 ≡ 0
      shifted_start c i h = go (cases_lt c 8)
        where
          go : (c < 8) ⊎ (8 ≤ c) → get_or (get_or (raise_of expanded) c []) i 0 ≡ 0
          go (inl k) = ap (λ row. get_or row i 0) (raised_row expanded c k) ∙ raise_below c (get_or expanded c []) i h
          go (inr k) = raised_past expanded c i k (expanded_sized.narrow c i (omega arith))

      shifted_entry : Room l bound weight → (c i : ℕ) → c ≤ i → get_or (get_or (raise_of expanded) c []) i 0 ≡ get_or (get_or expanded c []) (i - c) 0
      shifted_entry room c i h = go (cases_lt c l) (cases_lt i 256)
        where
          go : (c < l) ⊎ (l ≤ c) → (i < 256) ⊎ (256 ≤ i) → get_or (get_or (raise_of expanded) c []) i 0 ≡ get_or (get_or expanded c []) (i - c) 0
          go (inl k) (inl j) =
              ap (λ row. get_or row i 0) (raised_row expanded c (omega arith)) ∙ raise_inside c (get_or expanded c []) i h j
          go (inl k) (inr j) =
              let space : Nat.◌+◌ (row_length bound weight c) c ≤ 256 = room c k in
              ap (λ row. get_or row i 0) (raised_row expanded c (omega arith))
              ∙ raise_past c (get_or expanded c []) i j
              ∙ sym (expanded_sized.within c (i - c) (omega arith))
          go (inr k) j = outside (cases_lt c 8) ∙ sym (expanded_sized.narrow c (i - c) k)
            where
              inner : (i < 256) ⊎ (256 ≤ i) → c < 8 → get_or (get_or (raise_of expanded) c []) i 0 ≡ 0
              inner (inl j) s =
                  ap (λ row. get_or row i 0) (raised_row expanded c s)
                  ∙ raise_inside c (get_or expanded c []) i h j
                  ∙ expanded_sized.narrow c (i - c) k
              inner (inr j) s = ap (λ row. get_or row i 0) (raised_row expanded c s) ∙ raise_past c (get_or expanded c []) i j

              outside : (c < 8) ⊎ (8 ≤ c) → get_or (get_or (raise_of expanded) c []) i 0 ≡ 0
              outside (inl s) = inner j s
              outside (inr s) = raised_past expanded c i s (expanded_sized.narrow c i k)

      -- the program substitutes g + x·y for y
      pub shifted_lift : Room l bound weight → P (shifted_of m g l bound weight q) ≡ next R l (P q) (ι g)
      shifted_lift room = ap P raised_is ∙ fun_ext (λ c. fun_ext (λ i. go c i (cases_lt i c)))
        where
          go : (c i : ℕ) → (i < c) ⊎ (c ≤ i) → P (raise_of expanded) c i ≡ next R l (P q) (ι g) c i
          go c i (inl h) =
              is_zero (get_or (get_or (raise_of expanded) c []) i 0) (shifted_start c i h) ∙ sym (next_start R l (P q) (ι g) c i h)
          go c i (inr h) =
              ap ι (shifted_entry room c i h) ∙ expanded_lift c (i - c) ∙ sym (next_shifted R l (P q) (ι g) c i h)

      -- an entry is zero, or it has come from c places below
      abbrev Moved : ℕ → ℕ → Type 0
      Moved c i =
          (get_or (get_or (raise_of expanded) c []) i 0 ≡ 0)
          ⊎ ((c ≤ i) × (get_or (get_or (raise_of expanded) c []) i 0 ≡ get_or (get_or expanded c []) (i - c) 0))

      entry_of : Room l bound weight → (c i : ℕ) → (i < c) ⊎ (c ≤ i) → Moved c i
      entry_of room c i (inl h) = inl (shifted_start c i h)
      entry_of room c i (inr h) = inr (h, shifted_entry room c i h)

      pub shifted_elements : Room l bound weight → PolynomialOf o (shifted_of m g l bound weight q)
      shifted_elements room = subst (PolynomialOf o) (sym raised_is) (λ c i. go c i (entry_of room c i (cases_lt i c)))
        where
          go : (c i : ℕ) → Moved c i → get_or (get_or (raise_of expanded) c []) i 0 < m.size
          go c i (inl e) = is_element _ _ e (zero_element m law)
          go c i (inr e) = is_element _ _ e.1 (expanded_sized.elements c (i - c))

      pub shifted_narrow : Room l bound weight → Narrow l (shifted_of m g l bound weight q)
      shifted_narrow room = subst (Narrow l) (sym raised_is) (λ c i h. go c i h (entry_of room c i (cases_lt i c)))
        where
          go : (c i : ℕ) → l ≤ c → Moved c i → get_or (get_or (raise_of expanded) c []) i 0 ≡ 0
          go c i h (inl e) = e
          go c i h (inr e) = e.1 ∙ expanded_sized.narrow c (i - c) h

      -- where y weighed s + 1 it weighs s
      pub shifted_within : (s : ℕ) → weight ≡ suc s → Room l bound weight → Within bound s (shifted_of m g l bound weight q)
      shifted_within s e room = subst (Within bound s) (sym raised_is) (λ c i h. go c i h (entry_of room c i (cases_lt i c)))
        where
          reaches : (c i : ℕ) → c ≤ i → row_length bound s c ≤ i → i < 256 → row_length bound weight c ≤ i - c
          reaches c i k h t =
              subst (λ (n : ℕ). row_length bound n c ≤ i - c) (sym e) (row_length_raised bound s c i k h t)

          go : (c i : ℕ) → row_length bound s c ≤ i → Moved c i → get_or (get_or (raise_of expanded) c []) i 0 ≡ 0
          go c i h (inl z) = z
          go c i h (inr z) = far (cases_lt i 256) (cases_lt c l)
            where
              far : (i < 256) ⊎ (256 ≤ i) → (c < l) ⊎ (l ≤ c) → get_or (get_or (raise_of expanded) c []) i 0 ≡ 0
              far (inl t) j = z.1 ∙ expanded_sized.within c (i - c) (reaches c i z.0 h t)
              far (inr t) (inl j) =
                  let space : Nat.◌+◌ (row_length bound weight c) c ≤ 256 = room c j in
                  z.1 ∙ expanded_sized.within c (i - c) (omega arith)
              far (inr t) (inr j) = z.1 ∙ expanded_sized.narrow c (i - c) j

      pub shifted_sized : (s : ℕ) → weight ≡ suc s → Room l bound weight → Sized o l bound s (shifted_of m g l bound weight q)
      shifted_sized s e room =
          record {
            elements = shifted_elements room;
            within = shifted_within s e room;
            narrow = shifted_narrow room;
          }
