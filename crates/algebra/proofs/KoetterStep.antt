-- A step of Koetter's method keeps its invariant, for one condition more.
use mathlib.Core.Path.{◌≡◌, refl, sym, subst, subst₂}
use mathlib.Core.List.{List, [], ◌∷◌, ◌++◌, append_assoc, append-nil}
use mathlib.Core.Logic.{inl, inr}
use lib.ListN.{length, length-append}
use Prim.Native.Nat.{ℕ, suc, ◌+◌, ◌*◌, ◌≤◌, ◌<◌}
use native.Mathlib.Omega.{arith}
use native.Mathlib.Decide.{ℕ_discrete}
use Rattle.algebra.specs.Ring.{CommRing, Field}
use Rattle.algebra.specs.Conditions.{Condition, WellOrdered, triangle}
use Rattle.algebra.specs.Koetter.{State, Live, Kept, Pivoted, Step, Steps, degree_sum, Invariant}
use Rattle.algebra.proofs.Conditions.{follows_left}
use Rattle.algebra.proofs.KoetterRow.{Sound, sound_row, sound_last, sound_pivot, sound_other}
use Rattle.algebra.proofs.DegreeSum.{degree_sum_cong, degree_sum_raise}

module _ {K : Type 0} (F : Field K) where
  abbrev R : CommRing K
  R = F.ring

  module _ (s D l : ℕ) (cs : List (Condition K)) (c : Condition K) (st st' : State K) where
    -- the invariant from what holds of each live row
    from_rows : ((j : ℕ) → Live D l st' j → Sound F s D l (cs ++ (c ∷ [])) (st'.degrees j) j (st'.rows j))
        → degree_sum l st'.degrees ≤ suc (degree_sum l st.degrees)
        → Invariant R s D l cs st
        → Invariant R s D l (cs ++ (c ∷ [])) st'
    from_rows h k inv =
        record {
          narrow = λ j i. (h j i).narrow;
          meets = λ j i. (h j i).meets;
          head = λ j i. (h j i).head;
          total = (
              let t : degree_sum l st.degrees ≤ s * triangle l + length cs = inv.total in
              let e : length (cs ++ (c ∷ [])) ≡ length cs + 1 = length-append cs (c ∷ []) in
              omega arith
              );
        }

    kept_keeps : Kept R D l c st st' → Invariant R s D l cs st → Invariant R s D l (cs ++ (c ∷ [])) st'
    kept_keeps k inv = from_rows rows total inv
      where
        total : degree_sum l st'.degrees ≤ suc (degree_sum l st.degrees)
        total =
            let e : degree_sum l st'.degrees ≡ degree_sum l st.degrees = degree_sum_cong l st.degrees st'.degrees k.degree in
            omega arith

        rows : (j : ℕ) → Live D l st' j → Sound F s D l (cs ++ (c ∷ [])) (st'.degrees j) j (st'.rows j)
        rows j h =
            let e : st'.degrees j ≡ st.degrees j = k.degree j h.0 in
            let b : st'.degrees j < D = h.1 in
            let live : Live D l st j = (h.0, omega arith) in
            subst₂
            (λ d Q. Sound F s D l (cs ++ (c ∷ [])) d j Q)
            (sym e)
            (sym (k.row j live))
            (sound_last F s D l cs c (st.degrees j) j (st.rows j) (sound_row F s D l cs st inv j live) (k.met j live))

    pivoted_keeps : WellOrdered (cs ++ (c ∷ []))
        → (p : ℕ)
        → Pivoted F D l c st st' p
        → Invariant R s D l cs st
        → Invariant R s D l (cs ++ (c ∷ [])) st'
    pivoted_keeps w p k inv = from_rows (λ j h. rows j h (ℕ_discrete j p)) total inv
      where
        total : degree_sum l st'.degrees ≤ suc (degree_sum l st.degrees)
        total =
            let e : degree_sum l st'.degrees ≡ suc (degree_sum l st.degrees) = degree_sum_raise l p st.degrees st'.degrees k.live.0 k.pivot_degree k.degree in
            omega arith

        pivot : Live D l st' p → Sound F s D l (cs ++ (c ∷ [])) (st'.degrees p) p (st'.rows p)
        pivot h =
            let e : st'.degrees p ≡ suc (st.degrees p) = k.pivot_degree in
            let b : st'.degrees p < D = h.1 in
            let t : suc (st.degrees p) < D = omega arith in
            subst₂
            (λ d Q. Sound F s D l (cs ++ (c ∷ [])) d p Q)
            (sym e)
            (sym (k.pivot_row t))
            (sound_pivot F s D l cs c (st.degrees p) p (st.rows p) w t (sound_row F s D l cs st inv p k.live))

        rows : (j : ℕ) → Live D l st' j → Dec (j ≡ p) → Sound F s D l (cs ++ (c ∷ [])) (st'.degrees j) j (st'.rows j)
        rows j h (yes e) =
            subst (λ i. Sound F s D l (cs ++ (c ∷ [])) (st'.degrees i) i (st'.rows i)) (sym e) (pivot (subst (Live D l st') e h))
        rows j h (no ne) =
            let e : st'.degrees j ≡ st.degrees j = k.degree j h.0 ne in
            let b : st'.degrees j < D = h.1 in
            let live : Live D l st j = (h.0, omega arith) in
            subst₂
            (λ d Q. Sound F s D l (cs ++ (c ∷ [])) d j Q)
            (sym e)
            (sym (k.row j live ne))
            (sound_other
            F
            s
            D
            l
            cs
            c
            (st.degrees p)
            p
            (st.degrees j)
            j
            (st.rows p)
            (st.rows j)
            k.live.1
            ne
            k.fails
            (k.least j live)
            (sound_row F s D l cs st inv p k.live)
            (sound_row F s D l cs st inv j live))

    -- a step carries the invariant to one condition more
    pub step_keeps : WellOrdered (cs ++ (c ∷ []))
        → Step F D l c st st'
        → Invariant R s D l cs st
        → Invariant R s D l (cs ++ (c ∷ [])) st'
    step_keeps w (inl k) inv = kept_keeps k inv
    step_keeps w (inr k) inv = pivoted_keeps w k.0 k.1 inv

  -- steps along a list carry the invariant to its end
  pub steps_keep : (s D l : ℕ) (ds cs : List (Condition K)) (st st' : State K)
      → WellOrdered (ds ++ cs)
      → Steps F D l cs st st'
      → Invariant R s D l ds st
      → Invariant R s D l (ds ++ cs) st'
  steps_keep s D l ds [] st st' w e inv = subst₂ (Invariant R s D l) (sym (append-nil ds)) e inv
  steps_keep s D l ds (c ∷ cs) st st' w h inv =
      let a : ds ++ (c ∷ []) ++ cs ≡ ds ++ (c ∷ cs) = append_assoc ds (c ∷ []) cs in
      let v : WellOrdered (ds ++ (c ∷ []) ++ cs) = subst WellOrdered (sym a) w in
      subst
      (λ xs. Invariant R s D l xs st')
      a
      (steps_keep
      s
      D
      l
      (ds ++ (c ∷ []))
      cs
      h.0
      st'
      v
      h.2
      (step_keeps s D l ds c st h.0 (follows_left [] (ds ++ (c ∷ [])) cs v) h.1 inv))

  -- one step after a run of steps
  pub steps_last : (D l : ℕ) (cs : List (Condition K)) (c : Condition K) (st via st' : State K)
      → Steps F D l cs st via
      → Step F D l c via st'
      → Steps F D l (cs ++ (c ∷ [])) st st'
  steps_last D l [] c st via st' e k = (st', subst (λ x. Step F D l c x st') (sym e) k, refl)
  steps_last D l (x ∷ cs) c st via st' h k = (h.0, h.1, steps_last D l cs c h.0 via st' h.2 k)
