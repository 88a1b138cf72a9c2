-- The degrees of the rows are least: a step of Koetter's method keeps that.
use mathlib.Core.Path.{◌≡◌, sym, ◌∙◌, ap, subst, subst₂}
use mathlib.Core.List.{List, [], ◌∷◌, ◌++◌, append_assoc, append-nil}
use mathlib.Core.Logic.{inl, inr}
use Prim.Native.Nat.{ℕ, suc, ◌≤◌, ◌<◌}
use native.Mathlib.Omega.{arith}
use native.Mathlib.Decide.{ℕ_discrete}
use Rattle.algebra.proofs.ListMembers.{member_last, member_left}
use Rattle.algebra.specs.Ring.{CommRing, Field, mul_nonzero, inv_nonzero}
use Rattle.algebra.specs.Solver.{ring1, :0, ◌:-◌, :-◌, ◌:≡◌}
use Rattle.algebra.specs.Series.{series}
use Rattle.algebra.specs.Degree.{Below}
use Rattle.algebra.specs.Bivariate.{Bivariate}
use Rattle.algebra.specs.Conditions.{Condition, discrepancy, Meets, MeetsAll, WellOrdered}
use Rattle.algebra.specs.Koetter.{State, Head, less, Kept, Pivoted, Step, Steps, Invariant, Least}
use Rattle.algebra.proofs.Conditions.{well_ordered_closed, follows_left}
use Rattle.algebra.proofs.ConditionMultiples.{meets_less, discrepancy_less}
use Rattle.algebra.proofs.Head.{head_narrow, narrow_less}
use Rattle.algebra.proofs.KoetterRow.{Sound, sound_row, sound_below}
use Rattle.algebra.proofs.KoetterStep.{step_keeps}
use Rattle.algebra.proofs.Cancellation.{factor, before_cancelled}
use Rattle.algebra.proofs.KoetterReduction.{before_pivot}

module _ {K : Type 0} (F : Field K) where
  abbrev R : CommRing K
  R = F.ring

  open R use {zero as 𝟘, add as ◌+◌, mul as ◌*◌, neg as -◌}

  infixl 65 ◌+◌
  infixl 70 ◌*◌
  infix 75 -◌
  -- the pivot's degree grows, and no polynomial that meets the new condition has its head where the pivot had it
  pivoted_least : (s D l : ℕ) (cs : List (Condition K)) (c : Condition K) (st st' : State K) (p : ℕ)
      → WellOrdered (cs ++ (c ∷ []))
      → Pivoted F D l c st st' p
      → Invariant R s D l cs st
      → Least R s D l cs st
      → Least R s D l (cs ++ (c ∷ [])) st'
  pivoted_least s D l cs c st st' p w k inv lst = record { bound = λ P e j h b t m. bound P e j h b t m (ℕ_discrete j p) }
    where
      earlier : (P : Bivariate K) → MeetsAll R D l P (cs ++ (c ∷ [])) → MeetsAll R D l P cs
      earlier P m d i = m d (member_left d cs (c ∷ []) i)

      pivot : Sound F s D l cs (st.degrees p) p (st.rows p)
      pivot = sound_row F s D l cs st inv p k.live

      below : (n : ℕ) → Below R D (st.rows p n)
      below = sound_below F s D l cs (st.degrees p) p (st.rows p) k.live.1 pivot

      -- with the same head as the pivot it would have a discrepancy
      apart : (P : Bivariate K)
          → Below (series R) l P
          → Head R s (st.degrees p) p P
          → MeetsAll R D l P (cs ++ (c ∷ []))
          → ⊥
      apart P b t m =
          mul_nonzero
          F
          x
          (discrepancy R D l (st.rows p) c)
          (mul_nonzero F _ _ t.leads (inv_nonzero F _ pivot.head.leads))
          k.fails
          (ring1 R (λ y. y :≡ :- (:0 :- y)) tt _
          ∙ ap (λ z. - (z + - (x * discrepancy R D l (st.rows p) c))) (sym (m c (member_last c cs)))
          ∙ ap -◌ (sym (discrepancy_less R D l P x (st.rows p) c below) ∙ met)
          ∙ ring1 R (λ y. :- :0 :≡ :0) tt 𝟘)
        where
          x : K
          x = factor F s (st.degrees p) p P (st.rows p)

          met : Meets R D l (less R P x (st.rows p)) c
          met =
              before_pivot
              F
              s
              D
              l
              cs
              c
              st
              (well_ordered_closed (cs ++ (c ∷ [])) w)
              inv
              lst
              p
              k.live
              k.least
              (st.degrees p)
              p
              (let i : p < l = k.live.0 in omega arith)
              (omega arith)
              (less R P x (st.rows p))
              (narrow_less R l P x (st.rows p) b pivot.narrow)
              (meets_less R D l P x (st.rows p) cs below (earlier P m) pivot.meets)
              (before_cancelled F s (st.degrees p) p P (st.rows p) t.rest pivot.head)

      bound : (P : Bivariate K) (e j : ℕ)
          → e < D
          → Below (series R) l P
          → Head R s e j P
          → MeetsAll R D l P (cs ++ (c ∷ []))
          → Dec (j ≡ p)
          → st'.degrees j ≤ e
      bound P e j h b t m (no ne) =
          let q : st'.degrees j ≡ st.degrees j = k.degree j (head_narrow R s l e j P b t) ne in
          let i : st.degrees j ≤ e = lst.bound P e j h b t (earlier P m) in
          omega arith
      bound P e j h b t m (yes q) = subst (λ n. st'.degrees n ≤ e) (sym q) (grown (ℕ_discrete e (st.degrees p)))
        where
          at_pivot : Head R s e p P
          at_pivot = subst (λ n. Head R s e n P) q t

          grown : Dec (e ≡ st.degrees p) → st'.degrees p ≤ e
          grown (yes i) = absurd (apart P b (subst (λ n. Head R s n p P) i at_pivot) m)
          grown (no i) =
              let g : st'.degrees p ≡ suc (st.degrees p) = k.pivot_degree in
              let f : st.degrees p ≤ e = lst.bound P e p h b at_pivot (earlier P m) in
              omega arith

  kept_least : (s D l : ℕ) (cs : List (Condition K)) (c : Condition K) (st st' : State K)
      → Kept R D l c st st'
      → Least R s D l cs st
      → Least R s D l (cs ++ (c ∷ [])) st'
  kept_least s D l cs c st st' k lst =
      record {
        bound = λ P e j h b t m.
            let q : st'.degrees j ≡ st.degrees j = k.degree j (head_narrow R s l e j P b t) in
            let i : st.degrees j ≤ e = lst.bound P e j h b t (λ d n. m d (member_left d cs (c ∷ []) n)) in
            omega arith;
      }

  -- a step keeps the degrees least
  pub step_least : (s D l : ℕ) (cs : List (Condition K)) (c : Condition K) (st st' : State K)
      → WellOrdered (cs ++ (c ∷ []))
      → Step F D l c st st'
      → Invariant R s D l cs st
      → Least R s D l cs st
      → Least R s D l (cs ++ (c ∷ [])) st'
  step_least s D l cs c st st' w (inl k) inv lst = kept_least s D l cs c st st' k lst
  step_least s D l cs c st st' w (inr k) inv lst = pivoted_least s D l cs c st st' k.0 w k.1 inv lst

  -- steps along a list keep the degrees least
  pub steps_least : (s D l : ℕ) (ds cs : List (Condition K)) (st st' : State K)
      → WellOrdered (ds ++ cs)
      → Steps F D l cs st st'
      → Invariant R s D l ds st
      → Least R s D l ds st
      → Least R s D l (ds ++ cs) st'
  steps_least s D l ds [] st st' w e inv lst = subst₂ (Least R s D l) (sym (append-nil ds)) e lst
  steps_least s D l ds (c ∷ cs) st st' w h inv lst =
      let a : ds ++ (c ∷ []) ++ cs ≡ ds ++ (c ∷ cs) = append_assoc ds (c ∷ []) cs in
      let v : WellOrdered (ds ++ (c ∷ []) ++ cs) = subst WellOrdered (sym a) w in
      let u : WellOrdered (ds ++ (c ∷ [])) = follows_left [] (ds ++ (c ∷ [])) cs v in
      subst
      (λ xs. Least R s D l xs st')
      a
      (steps_least
      s
      D
      l
      (ds ++ (c ∷ []))
      cs
      h.0
      st'
      v
      h.2
      (step_keeps F s D l ds c st h.0 u h.1 inv)
      (step_least s D l ds c st h.0 u h.1 inv lst))
