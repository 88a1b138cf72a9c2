-- The conditions of places: which they are, and that they are well ordered.
use mathlib.Core.Path.{◌≡◌, sym, ◌∙◌, ap, subst}
use mathlib.Core.List.{List, [], ◌∷◌, ◌++◌, append-nil, append_assoc}
use mathlib.Core.Logic.{inl}
use Prim.Native.Nat.{ℕ, zero, suc, ◌+◌, ◌-◌, ◌<◌}
use native.Mathlib.Omega.{arith}
use native.Mathlib.Decide.{ℕ_discrete}
use Rattle.algebra.specs.Members.{Member}
use Rattle.algebra.proofs.ListMembers.{member_left, member_right}
use Rattle.algebra.specs.Places.{Place}
use Rattle.algebra.specs.Conditions.{Condition, condition, Follows, WellOrdered, column, columns, conditions_of, stage}
use Rattle.algebra.proofs.Conditions.{follows_append}

module _ {K : Type 0} where
  member_column : (a b : K) (u r n : ℕ) → r < n → Member (condition a b u r) (column a b u n)
  member_column a b u r zero h = absurd (omega arith)
  member_column a b u r (suc n) h = go (ℕ_discrete r n) (member_column a b u r n)
    where
      go : Dec (r ≡ n)
          → (r < n → Member (condition a b u r) (column a b u n))
          → Member (condition a b u r) (column a b u n ++ (condition a b u n ∷ []))
      go (yes e) ih = member_right (condition a b u r) (column a b u n) (condition a b u n ∷ []) (inl (ap (condition a b u) e))
      go (no k) ih = member_left (condition a b u r) (column a b u n) (condition a b u n ∷ []) (ih (omega arith))

  pub member_columns : (a b : K) (m u v r : ℕ) → v < u → v + r < m → Member (condition a b v r) (columns a b m u)
  member_columns a b m zero v r h k = absurd (omega arith)
  member_columns a b m (suc u) v r h k = go (ℕ_discrete v u) (λ i. member_columns a b m u v r i k)
    where
      go : Dec (v ≡ u)
          → (v < u → Member (condition a b v r) (columns a b m u))
          → Member (condition a b v r) (columns a b m u ++ column a b u (m - u))
      go (yes e) ih =
          member_right
          (condition a b v r)
          (columns a b m u)
          (column a b u (m - u))
          (subst (λ x. Member (condition a b x r) (column a b u (m - u))) (sym e) (member_column a b u r (m - u) (omega arith)))
      go (no i) ih = member_left (condition a b v r) (columns a b m u) (column a b u (m - u)) (ih (omega arith))

  -- the powers of x at one power of y come in order
  pub follows_column : (ds : List (Condition K)) (a b : K) (u n : ℕ) → Follows ds (column a b u n)
  follows_column ds a b u zero = tt
  follows_column ds a b u (suc n) =
      follows_append
      ds
      (column a b u n)
      (condition a b u n ∷ [])
      (follows_column ds a b u n)
      (λ r e. member_right (condition a b u r) ds (column a b u n) (member_column a b u r n (omega arith)), tt)

  pub follows_columns : (ds : List (Condition K)) (a b : K) (m u : ℕ) → Follows ds (columns a b m u)
  follows_columns ds a b m zero = tt
  follows_columns ds a b m (suc u) =
      follows_append
      ds
      (columns a b m u)
      (column a b u (m - u))
      (follows_columns ds a b m u)
      (follows_column (ds ++ columns a b m u) a b u (m - u))

  pub follows_conditions : (ds : List (Condition K)) (ps : List (Place K)) → Follows ds (conditions_of ps)
  follows_conditions ds [] = tt
  follows_conditions ds (p ∷ ps) =
      let m : ℕ = p.multiplicity in
      let cs : List (Condition K) = columns p.abscissa p.ordinate m m in
      follows_append
      ds
      cs
      (conditions_of ps)
      (follows_columns ds p.abscissa p.ordinate m m)
      (follows_conditions (ds ++ cs) ps)

  -- the conditions of places are well ordered
  pub conditions_well_ordered : (ps : List (Place K)) → WellOrdered (conditions_of ps)
  conditions_well_ordered ps = follows_conditions [] ps

  -- and so they are at each stage: whole places, whole powers of y, and n powers of x
  pub stage_well_ordered : (ps : List (Place K)) (a b : K) (m u n : ℕ)
      → WellOrdered (stage ps a b m u n)
  stage_well_ordered ps a b m u n =
      follows_append
      []
      (conditions_of ps ++ columns a b m u)
      (column a b u n)
      (follows_append [] (conditions_of ps) (columns a b m u) (conditions_well_ordered ps) (follows_columns (conditions_of ps) a b m u))
      (follows_column (conditions_of ps ++ columns a b m u) a b u n)

  -- the conditions of one more place
  pub conditions_last : (ps : List (Place K)) (p : Place K)
      → conditions_of (ps ++ (p ∷ []))
      ≡ conditions_of ps ++ columns p.abscissa p.ordinate p.multiplicity p.multiplicity
  conditions_last [] p = append-nil (columns p.abscissa p.ordinate p.multiplicity p.multiplicity)
  conditions_last (q ∷ ps) p =
      let cs : List (Condition K) = columns q.abscissa q.ordinate q.multiplicity q.multiplicity in
      let ds : List (Condition K) = columns p.abscissa p.ordinate p.multiplicity p.multiplicity in
      ap (λ zs. cs ++ zs) (conditions_last ps p) ∙ sym (append_assoc cs (conditions_of ps) ds)
