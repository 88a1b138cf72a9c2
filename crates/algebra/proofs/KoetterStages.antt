-- The method along three loops: over the places, over the powers of y and over the powers of x.
use mathlib.Core.Path.{◌≡◌, sym, ◌∙◌, subst}
use mathlib.Core.List.{List, [], ◌∷◌, ◌++◌, append_assoc, append-nil}
use Prim.Native.Nat.{ℕ, suc, ◌-◌}
use Rattle.algebra.specs.Ring.{Field}
use Rattle.algebra.specs.Places.{Place}
use Rattle.algebra.specs.Conditions.{condition, WellOrdered, column, columns, conditions_of, stage}
use Rattle.algebra.specs.Koetter.{State, Step, Invariant, Least}
use Rattle.algebra.proofs.PlaceConditions.{conditions_last, stage_well_ordered}
use Rattle.algebra.proofs.KoetterStep.{step_keeps}
use Rattle.algebra.proofs.KoetterLeast.{step_least}

module _ {K : Type 0} where
  -- a place begins where the places before it end
  pub stage_first : (ps : List (Place K)) (a b : K) (m : ℕ) → stage ps a b m 0 0 ≡ conditions_of ps
  stage_first ps a b m = append-nil (conditions_of ps ++ []) ∙ append-nil (conditions_of ps)

  -- the next power of x
  pub stage_next : (ps : List (Place K)) (a b : K) (m u n : ℕ)
      → stage ps a b m u n ++ (condition a b u n ∷ []) ≡ stage ps a b m u (suc n)
  stage_next ps a b m u n =
      append_assoc (conditions_of ps ++ columns a b m u) (column a b u n) (condition a b u n ∷ [])

  -- the next power of y
  pub stage_turn : (ps : List (Place K)) (a b : K) (m u : ℕ) → stage ps a b m u (m - u) ≡ stage ps a b m (suc u) 0
  stage_turn ps a b m u =
      append_assoc (conditions_of ps) (columns a b m u) (column a b u (m - u))
      ∙ sym (append-nil (conditions_of ps ++ columns a b m (suc u)))

  -- the place is done
  pub stage_last : (ps : List (Place K)) (p : Place K)
      → stage ps p.abscissa p.ordinate p.multiplicity p.multiplicity 0 ≡ conditions_of (ps ++ (p ∷ []))
  stage_last ps p =
      append-nil (conditions_of ps ++ columns p.abscissa p.ordinate p.multiplicity p.multiplicity)
      ∙ sym (conditions_last ps p)

  next_well_ordered : (ps : List (Place K)) (a b : K) (m u n : ℕ)
      → WellOrdered (stage ps a b m u n ++ (condition a b u n ∷ []))
  next_well_ordered ps a b m u n =
      subst WellOrdered (sym (stage_next ps a b m u n)) (stage_well_ordered ps a b m u (suc n))

module _ {K : Type 0} (F : Field K) where
  -- a step at the power n of x and u of y
  pub stage_keeps : (s D l : ℕ) (ps : List (Place K)) (a b : K) (m u n : ℕ) (st st' : State K)
      → Step F D l (condition a b u n) st st'
      → Invariant F.ring s D l (stage ps a b m u n) st
      → Invariant F.ring s D l (stage ps a b m u (suc n)) st'
  stage_keeps s D l ps a b m u n st st' k inv =
      subst
      (λ cs. Invariant F.ring s D l cs st')
      (stage_next ps a b m u n)
      (step_keeps F s D l (stage ps a b m u n) (condition a b u n) st st' (next_well_ordered ps a b m u n) k inv)

  pub stage_keeps_least : (s D l : ℕ) (ps : List (Place K)) (a b : K) (m u n : ℕ) (st st' : State K)
      → Step F D l (condition a b u n) st st'
      → Invariant F.ring s D l (stage ps a b m u n) st
      → Least F.ring s D l (stage ps a b m u n) st
      → Least F.ring s D l (stage ps a b m u (suc n)) st'
  stage_keeps_least s D l ps a b m u n st st' k inv lst =
      subst
      (λ cs. Least F.ring s D l cs st')
      (stage_next ps a b m u n)
      (step_least F s D l (stage ps a b m u n) (condition a b u n) st st' (next_well_ordered ps a b m u n) k inv lst)
