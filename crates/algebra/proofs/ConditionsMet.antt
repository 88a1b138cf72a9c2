-- What it means to meet the conditions of places.
use mathlib.Core.Path.{sym, subst}
use mathlib.Core.List.{List, [], ◌∷◌, ◌++◌}
use mathlib.Core.Logic.{inl, inr}
use Prim.Native.Nat.{ℕ, zero, suc, ◌<◌, ◌-◌}
use native.Mathlib.Omega.{arith}
use Rattle.algebra.proofs.ListMembers.{member_append, member_left, member_right}
use Rattle.algebra.specs.Ring.{CommRing}
use Rattle.algebra.specs.Bivariate.{Bivariate, Multiplicity}
use Rattle.algebra.specs.Places.{Place, Multiplicities}
use Rattle.algebra.specs.Conditions.{Condition, condition, Meets, MeetsAll, column, columns, conditions_of}
use Rattle.algebra.proofs.PlaceConditions.{member_columns}

module _ {K : Type 0} (R : CommRing K) where
  pub meets_append : (d l : ℕ) (Q : Bivariate K) (xs ys : List (Condition K))
      → MeetsAll R d l Q xs
      → MeetsAll R d l Q ys
      → MeetsAll R d l Q (xs ++ ys)
  meets_append d l Q xs ys h k c m = elim (member_append c xs ys m) [ inl i ↦ h c i | inr i ↦ k c i ]

  pub meets_one : (d l : ℕ) (Q : Bivariate K) (c : Condition K) → Meets R d l Q c → MeetsAll R d l Q (c ∷ [])
  meets_one d l Q c h x (inl e) = subst (Meets R d l Q) (sym e) h
  meets_one d l Q c h x (inr m) = absurd m

  pub meets_last : (d l : ℕ) (Q : Bivariate K) (cs : List (Condition K)) (c : Condition K)
      → MeetsAll R d l Q cs
      → Meets R d l Q c
      → MeetsAll R d l Q (cs ++ (c ∷ []))
  meets_last d l Q cs c h k = meets_append d l Q cs (c ∷ []) h (meets_one d l Q c k)

  meets_column : (d l : ℕ) (Q : Bivariate K) (a b : K) (u n : ℕ)
      → ((r : ℕ) → r < n → Meets R d l Q (condition a b u r))
      → MeetsAll R d l Q (column a b u n)
  meets_column d l Q a b u zero h = λ c m. absurd m
  meets_column d l Q a b u (suc n) h =
      meets_last d l Q (column a b u n) (condition a b u n) (meets_column d l Q a b u n (λ r k. h r (omega arith))) (h n (omega arith))

  meets_columns : (d l : ℕ) (Q : Bivariate K) (a b : K) (m u : ℕ)
      → Multiplicity R a b m d l Q
      → MeetsAll R d l Q (columns a b m u)
  meets_columns d l Q a b m zero h = λ c k. absurd k
  meets_columns d l Q a b m (suc u) h =
      meets_append
      d
      l
      Q
      (columns a b m u)
      (column a b u (m - u))
      (meets_columns d l Q a b m u h)
      (meets_column d l Q a b u (m - u) (λ r k. h u r (omega arith)))

  -- what vanishes at the places with their multiplicities meets the conditions
  pub multiplicities_meet : (d l : ℕ) (Q : Bivariate K) (ps : List (Place K))
      → Multiplicities R d l Q ps
      → MeetsAll R d l Q (conditions_of ps)
  multiplicities_meet d l Q [] h = λ c m. absurd m
  multiplicities_meet d l Q (p ∷ ps) h =
      meets_append
      d
      l
      Q
      (columns p.abscissa p.ordinate p.multiplicity p.multiplicity)
      (conditions_of ps)
      (meets_columns d l Q p.abscissa p.ordinate p.multiplicity p.multiplicity h.0)
      (multiplicities_meet d l Q ps h.1)

  -- what meets the conditions vanishes at the places with their multiplicities
  pub meet_multiplicities : (d l : ℕ) (Q : Bivariate K) (ps : List (Place K))
      → MeetsAll R d l Q (conditions_of ps)
      → Multiplicities R d l Q ps
  meet_multiplicities d l Q [] h = tt
  meet_multiplicities d l Q (p ∷ ps) h =
      let m : ℕ = p.multiplicity in
      let cs : List (Condition K) = columns p.abscissa p.ordinate m m in (
        λ u r k.
            h
            (condition p.abscissa p.ordinate u r)
            (member_left
            (condition p.abscissa p.ordinate u r)
            cs
            (conditions_of ps)
            (member_columns p.abscissa p.ordinate m m u r (omega arith) k)),
        meet_multiplicities d l Q ps (λ c i. h c (member_right c cs (conditions_of ps) i)),
      )
