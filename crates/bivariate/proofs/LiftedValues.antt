-- What the functions on one row say of power series: values and expansions.
use Rattle.std.proofs.Common.{◌≡◌, ℕ, zero, suc, ◌<◌, ◌≤◌, min, cond, ltb, ◌⊎◌, List, get_or, sym, refl, ap, ◌∙◌, subst, ap₂, inl, inr, arith}
use mathlib.Core.Path.{fun_ext}
use Prim.Native.Nat
use Rattle.std.proofs.lemmas.Bool.{cases_lt}
use Rattle.algebra.specs.Operations.{Operations, Lawful}
use Rattle.algebra.specs.Ring.{CommRing}
use Rattle.algebra.specs.Series.{Series, tail}
use Rattle.algebra.proofs.Coefficients.{zero_at}
use Rattle.algebra.specs.Elements.{Elem, element_ring, into}
use Rattle.algebra.specs.Evaluation.{eval, taylor}
use Rattle.algebra.proofs.Elements.{into_zero}
use Rattle.algebra.proofs.Taylor.{taylor_suc_at_zero, taylor_suc_at_suc, taylor_at_zero, taylor_bound}
use Rattle.algebra.proofs.Evaluation.{eval_bound}
use Rattle.field.specs.Meaning.{Meaning, operations, sum_of, product_of}
use Rattle.bivariate.specs.Horner.{entries, value_of, taylor_of, coefficient_of, expansion_of}
use Rattle.bivariate.specs.Lifted.{series_of, RowOf}
use Rattle.bivariate.proofs.Steps.{value_suc, value_zero, taylor_zero, taylor_suc_zero, taylor_suc_suc, expansion_at, expansion_past, expansion_outside}
use Rattle.bivariate.proofs.FieldNumbers.{zero_element, sum_element, into_multiple}
use Rattle.bivariate.proofs.Parts.{pick_below, pick_above}

module _ (m : Meaning) (law : Lawful (operations m)) where
  abbrev o : Operations
  o = operations m

  abbrev R : CommRing (Elem o)
  R = element_ring o law

  open R use {zero as 𝟘, one as 𝟙, add as ◌+◌, mul as ◌*◌, neg as -◌}

  infixl 65 ◌+◌
  infixl 70 ◌*◌
  infix 75 -◌
  abbrev ι : ℕ → Elem o
  ι = into o law

  -- the coefficients from i on
  abbrev from : (ℕ → ℕ) → ℕ → Series (Elem o)
  from cs i k = ι (cs (Nat.◌+◌ i k))

  from_zero : (cs : ℕ → ℕ) → from cs 0 ≡ (λ k. ι (cs k))
  from_zero cs = fun_ext (λ k. let e : Nat.◌+◌ 0 k ≡ k = omega arith in ap (λ j. ι (cs j)) e)

  from_head : (cs : ℕ → ℕ) (i : ℕ) → from cs i 0 ≡ ι (cs i)
  from_head cs i = let e : Nat.◌+◌ i 0 ≡ i = omega arith in ap (λ j. ι (cs j)) e

  from_tail : (cs : ℕ → ℕ) (i : ℕ) → tail (from cs i) ≡ from cs (suc i)
  from_tail cs i = fun_ext (λ k. let e : Nat.◌+◌ i (suc k) ≡ Nat.◌+◌ (suc i) k = omega arith in ap (λ j. ι (cs j)) e)

  -- a coefficient of an expansion is an element
  pub taylor_element : (a : ℕ) (cs : ℕ → ℕ) (i n r : ℕ) → taylor_of m a cs i n r < m.size
  taylor_element a cs i zero r = subst (λ (x : ℕ). x < m.size) (taylor_zero m a cs i 0 r refl) (zero_element m law)
  taylor_element a cs i (suc n) zero = subst (λ (x : ℕ). x < m.size) (sym (taylor_suc_zero m a cs i n)) (sum_element m law _ _)
  taylor_element a cs i (suc n) (suc r) = subst (λ (x : ℕ). x < m.size) (sym (taylor_suc_suc m a cs i n r)) (sum_element m law _ _)

  module _ (a : ℕ) (cs : ℕ → ℕ) (element : a < m.size) (elements : (k : ℕ) → cs k < m.size) where
    taylor_lift_from : (i n r : ℕ) → ι (taylor_of m a cs i n r) ≡ taylor R n (from cs i) (ι a) r
    taylor_lift_from i zero r = ap ι (sym (taylor_zero m a cs i 0 r refl)) ∙ into_zero o law ∙ sym (zero_at R r)
    taylor_lift_from i (suc n) zero =
        ap ι (taylor_suc_zero m a cs i n)
        ∙ into_multiple m law (cs i) a (taylor_of m a cs (suc i) n 0) (elements i) element (taylor_element a cs (suc i) n 0)
        ∙ ap₂
        (λ x y. x + ι a * y)
        (sym (from_head cs i))
        (taylor_lift_from (suc i) n 0 ∙ ap (λ f. taylor R n f (ι a) 0) (sym (from_tail cs i)))
        ∙ sym (taylor_suc_at_zero R n (from cs i) (ι a))
    taylor_lift_from i (suc n) (suc r) =
        ap ι (taylor_suc_suc m a cs i n r)
        ∙ into_multiple
        m
        law
        (taylor_of m a cs (suc i) n r)
        a
        (taylor_of m a cs (suc i) n (suc r))
        (taylor_element a cs (suc i) n r)
        element
        (taylor_element a cs (suc i) n (suc r))
        ∙ ap₂
        (λ x y. x + ι a * y)
        (taylor_lift_from (suc i) n r ∙ ap (λ f. taylor R n f (ι a) r) (sym (from_tail cs i)))
        (taylor_lift_from (suc i) n (suc r) ∙ ap (λ f. taylor R n f (ι a) (suc r)) (sym (from_tail cs i)))
        ∙ R.add_comm (taylor R n (tail (from cs i)) (ι a) r) (ι a * taylor R n (tail (from cs i)) (ι a) (suc r))
        ∙ sym (taylor_suc_at_suc R n (from cs i) (ι a) r)

    -- the numbers that the program computes are the coefficients of the expansion
    pub taylor_lift : (n r : ℕ) → ι (taylor_of m a cs 0 n r) ≡ taylor R n (λ k. ι (cs k)) (ι a) r
    taylor_lift n r = taylor_lift_from 0 n r ∙ ap (λ f. taylor R n f (ι a) r) (from_zero cs)

    pub coefficient_lift : (n r : ℕ) → r < 8 → ι (coefficient_of m a cs n r) ≡ taylor R n (λ k. ι (cs k)) (ι a) r
    unfolding coefficient_of
    coefficient_lift n r h = ap ι (pick_below r 8 (taylor_of m a cs 0 n r) 0 h) ∙ taylor_lift n r

    pub expansion_lift : (n order r : ℕ)
        → r < 8
        → r < order
        → ι (get_or (expansion_of m a cs 0 n order) r 0) ≡ taylor R n (λ k. ι (cs k)) (ι a) r
    expansion_lift n order r h k = ap ι (expansion_at m a cs 0 n order r h k) ∙ taylor_lift n r

    value_as_taylor : (i n : ℕ) → value_of m a cs i n ≡ taylor_of m a cs i n 0
    value_as_taylor i zero = value_zero m a cs i ∙ taylor_zero m a cs i 0 0 refl
    value_as_taylor i (suc n) =
        value_suc m a cs i n ∙ ap (λ x. sum_of m (cs i) (product_of m a x)) (value_as_taylor (suc i) n) ∙ sym (taylor_suc_zero m a cs i n)

    -- the number that the program computes is the value
    pub value_lift : (n : ℕ) → ι (value_of m a cs 0 n) ≡ eval R n (λ k. ι (cs k)) (ι a)
    value_lift n = ap ι (value_as_taylor 0 n) ∙ taylor_lift n 0 ∙ taylor_at_zero R n (λ k. ι (cs k)) (ι a)

    pub value_element : (n : ℕ) → value_of m a cs 0 n < m.size
    value_element n = subst (λ (x : ℕ). x < m.size) (sym (value_as_taylor 0 n)) (taylor_element a cs 0 n 0)

  pub coefficient_element : (a : ℕ) (cs : ℕ → ℕ) (n r : ℕ) → coefficient_of m a cs n r < m.size
  unfolding coefficient_of
  coefficient_element a cs n r = go (cases_lt r 8)
    where
      go : (r < 8) ⊎ (8 ≤ r) → cond (ltb r 8) (taylor_of m a cs 0 n r) 0 < m.size
      go (inl h) = subst (λ (x : ℕ). x < m.size) (sym (pick_below r 8 (taylor_of m a cs 0 n r) 0 h)) (taylor_element a cs 0 n r)
      go (inr h) = subst (λ (x : ℕ). x < m.size) (sym (pick_above r 8 (taylor_of m a cs 0 n r) 0 h)) (zero_element m law)

  module _ (row : List ℕ) (len a : ℕ) (element : a < m.size) (elements : RowOf o row) where
    -- the value of a row
    pub row_value_lift : ι (value_of m a (entries row) 0 (min len 256)) ≡ eval R (min len 256) (series_of o law row) (ι a)
    row_value_lift = value_lift a (entries row) element elements (min len 256)

    -- where the row is zero from its length on, any bound from there on gives the same value
    pub row_value_bound : (d : ℕ)
        → min len 256 ≤ d
        → ((i : ℕ) → min len 256 ≤ i → get_or row i 0 ≡ 0)
        → ι (value_of m a (entries row) 0 (min len 256)) ≡ eval R d (series_of o law row) (ι a)
    row_value_bound d h z =
        row_value_lift
        ∙ sym (eval_bound R (min len 256) d (series_of o law row) (ι a) (λ i k. ap ι (z i k) ∙ into_zero o law) h)

    -- the expansion of a row
    pub row_expansion_lift : (order r : ℕ)
        → r < 8
        → r < order
        → ι (get_or (expansion_of m a (entries row) 0 (min len 256) order) r 0)
        ≡ taylor R (min len 256) (series_of o law row) (ι a) r
    row_expansion_lift order r h k = expansion_lift a (entries row) element elements (min len 256) order r h k

    -- the same with any bound from the length on
    pub row_expansion_bound : (d order r : ℕ)
        → min len 256 ≤ d
        → ((i : ℕ) → min len 256 ≤ i → get_or row i 0 ≡ 0)
        → r < 8
        → r < order
        → ι (get_or (expansion_of m a (entries row) 0 (min len 256) order) r 0) ≡ taylor R d (series_of o law row) (ι a) r
    row_expansion_bound d order r l z h k =
        row_expansion_lift order r h k
        ∙ sym
        (ap
        (λ f. f r)
        (taylor_bound R (min len 256) d (series_of o law row) (ι a) (λ i j. ap ι (z i j) ∙ into_zero o law) l))

  -- the numbers of an expansion are elements
  pub expansion_elements : (a : ℕ) (cs : ℕ → ℕ) (n order : ℕ) → RowOf o (expansion_of m a cs 0 n order)
  expansion_elements a cs n order r = go (cases_lt r 8) (cases_lt r order)
    where
      go : (r < 8) ⊎ (8 ≤ r) → (r < order) ⊎ (order ≤ r) → get_or (expansion_of m a cs 0 n order) r 0 < m.size
      go (inl h) (inl k) =
          subst (λ (x : ℕ). x < m.size) (sym (expansion_at m a cs 0 n order r h k)) (taylor_element a cs 0 n r)
      go (inl h) (inr k) =
          subst (λ (x : ℕ). x < m.size) (sym (expansion_past m a cs 0 n order r h k)) (zero_element m law)
      go (inr h) k =
          subst (λ (x : ℕ). x < m.size) (sym (expansion_outside m a cs 0 n order r h)) (zero_element m law)
