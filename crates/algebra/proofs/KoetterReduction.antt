-- A polynomial that meets the earlier conditions, and whose head stands before the pivot's, meets the new condition too: it is reduced by multiples of rows.
use mathlib.Core.Path.{◌≡◌, subst}
use mathlib.Core.List.{List, [], ◌∷◌, ◌++◌}
use Prim.Native.Nat.{ℕ, zero, suc, ◌≤◌, ◌<◌, ◌-◌}
use Prim.Native.Nat
use native.Mathlib.Omega.{arith}
use native.Mathlib.Decide.{dec_le}
use Rattle.algebra.proofs.ListMembers.{member_last, member_left}
use Rattle.algebra.specs.Ring.{CommRing, Field}
use Rattle.algebra.specs.Series.{series}
use Rattle.algebra.specs.Degree.{Below}
use Rattle.algebra.specs.Bivariate.{Bivariate}
use Rattle.algebra.specs.Conditions.{Condition, discrepancy, Meets, MeetsAll}
use Rattle.algebra.specs.Koetter.{State, Live, AtMost, Before, Head, less, Invariant, Least}
use Rattle.algebra.proofs.Conditions.{Closed}
use Rattle.algebra.proofs.ConditionMultiples.{meets_less}
use Rattle.algebra.proofs.Head.{head_narrow, narrow_less}
use Rattle.algebra.proofs.HeadSearch.{lexicographic, before_none, before_down, before_across}
use Rattle.algebra.proofs.Cancellation.{meets_zero, meets_back, sound_raise, factor, before_cancelled}
use Rattle.algebra.proofs.KoetterRow.{Sound, sound_row, sound_below, sound_last}

module _ {K : Type 0} (F : Field K) where
  abbrev R : CommRing K
  R = F.ring

  open R use {zero as 𝟘, one as 𝟙, add as ◌+◌, mul as ◌*◌, neg as -◌}

  infixl 65 ◌+◌
  infixl 70 ◌*◌
  infix 75 -◌
  module _ (s D l : ℕ) (cs : List (Condition K)) (c : Condition K) (st : State K) where
    abbrev pub C : List (Condition K)
    C = cs ++ (c ∷ [])

    module _
        (closed : Closed C)
        (inv : Invariant R s D l cs st)
        (lst : Least R s D l cs st)
        (p : ℕ)
        (live : Live D l st p)
        (least : (j : ℕ) → Live D l st j → (discrepancy R D l (st.rows j) c ≡ 𝟘 → ⊥) → AtMost (st.degrees p) p (st.degrees j) j)
      where
        abbrev pub Reduces : ℕ → ℕ → Type 0
        Reduces e j =
            AtMost e j (st.degrees p) p
            → (P : Bivariate K)
            → Below (series R) l P
            → MeetsAll R D l P cs
            → Before R s e j P
            → Meets R D l P c

        -- a live row whose head stands before the pivot's meets the condition
        earlier_meets : (e j : ℕ)
            → AtMost e (suc j) (st.degrees p) p
            → st.degrees j ≤ e
            → Live D l st j
            → Meets R D l (st.rows j) c
        earlier_meets e j h k i = go (F.decide (discrepancy R D l (st.rows j) c) 𝟘)
          where
            go : Dec (discrepancy R D l (st.rows j) c ≡ 𝟘) → Meets R D l (st.rows j) c
            go (yes q) = q
            go (no q) =
                let a : AtMost (st.degrees p) p (st.degrees j) j = least j i q in
                let x : st.degrees p ≤ st.degrees j = a.0 in
                let y : e ≤ st.degrees p = h.0 in
                let u : suc j ≤ p = h.1 (omega arith) in
                let v : p ≤ j = a.1 (omega arith) in
                absurd (omega arith)

        -- a polynomial with its head at (e, j) is reduced by a multiple of row j
        reduce_head : (e j : ℕ)
            → Reduces e j
            → AtMost e (suc j) (st.degrees p) p
            → (P : Bivariate K)
            → Below (series R) l P
            → MeetsAll R D l P cs
            → Head R s e j P
            → Meets R D l P c
        reduce_head e j ih h P b m k =
            meets_back
            F
            D
            l
            c
            P
            x
            r.0
            rows
            (r.1.meets c (member_last c cs))
            (ih
            (h.0, λ q. let t : suc j ≤ p = h.1 q in omega arith)
            (less R P x r.0)
            (narrow_less R l P x r.0 b r.1.narrow)
            (meets_less R D l P x r.0 cs rows m (λ d i. r.1.meets d (member_left d cs (c ∷ []) i)))
            (before_cancelled F s e j P r.0 k.rest r.1.head))
          where
            small : e < D
            small = let y : e ≤ st.degrees p = h.0 in let z : st.degrees p < D = live.1 in omega arith

            under : st.degrees j ≤ e
            under = lst.bound P e j small b k m

            alive : Live D l st j
            alive = (head_narrow R s l e j P b k, omega (arith, under, small))

            r : (Q : Bivariate K) × Sound F s D l C e j Q
            r =
                let q : Nat.◌+◌ (st.degrees j) (e - st.degrees j) ≡ e = omega (arith, under) in
                subst
                (λ d. (Q : Bivariate K) × Sound F s D l C d j Q)
                q
                (sound_raise
                F
                s
                D
                l
                C
                (st.degrees j)
                j
                (st.rows j)
                (e - st.degrees j)
                closed
                (omega (arith, small))
                (sound_last F s D l cs c (st.degrees j) j (st.rows j) (sound_row F s D l cs st inv j alive) (earlier_meets e j h under alive)))

            rows : (n : ℕ) → Below R D (r.0 n)
            rows = sound_below F s D l C e j r.0 small r.1

            x : K
            x = factor F s e j P r.0

        -- what meets the earlier conditions and has its head before the pivot's meets the new one
        pub before_pivot : (e j : ℕ) → j ≤ l → Reduces e j
        before_pivot = lexicographic l Reduces base down across
          where
            base : Reduces 0 0
            base h P b m w = meets_zero F D l P c (before_none R s P w)

            down : (e : ℕ) → Reduces e l → Reduces (suc e) 0
            down e ih h P b m w =
                let y : suc e ≤ st.degrees p = h.0 in
                ih (omega arith, λ q. absurd (omega arith)) P b m (before_down R s l e P b w)

            across : (e j : ℕ) → j < l → Reduces e j → Reduces e (suc j)
            across e j t ih h P b m w = go (dec_le (Nat.◌*◌ s j) e) (F.decide (P j (e - Nat.◌*◌ s j)) 𝟘)
              where
                less_one : ((Nat.◌*◌ s j ≤ e) → P j (e - Nat.◌*◌ s j) ≡ 𝟘) → Meets R D l P c
                less_one z =
                    ih (h.0, λ q. let i : suc j ≤ p = h.1 q in omega arith) P b m (before_across R s e j P w z)

                go : Dec (Nat.◌*◌ s j ≤ e) → Dec (P j (e - Nat.◌*◌ s j) ≡ 𝟘) → Meets R D l P c
                go (no k) d = less_one (λ i. absurd (k i))
                go (yes k) (yes z) = less_one (λ i. z)
                go (yes k) (no z) = reduce_head e j ih h P b m (record { fits = k; leads = z; rest = w })
