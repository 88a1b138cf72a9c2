-- After the conditions of places a live row is left, and every live row is a polynomial as is wanted.
use mathlib.Core.Path.{◌≡◌}
use mathlib.Core.List.{List, []}
use lib.ListN.{length}
use Prim.Native.Nat.{ℕ, ◌+◌, ◌*◌, ◌≤◌, ◌<◌}
use native.Mathlib.Omega.{arith}
use Rattle.algebra.specs.Ring.{CommRing, Field}
use Rattle.algebra.specs.Places.{Place}
use Rattle.algebra.specs.Conditions.{Condition, triangle, conditions_of, condition_count}
use Rattle.algebra.specs.Koetter.{State, Live, Start, Steps, degree_sum, Invariant, Interpolates}
use Rattle.algebra.proofs.PlaceConditions.{conditions_well_ordered}
use Rattle.algebra.proofs.ConditionCount.{conditions_length}
use Rattle.algebra.proofs.ConditionsMet.{meet_multiplicities}
use Rattle.algebra.proofs.Head.{head_weighted, head_nonzero}
use Rattle.algebra.proofs.DegreeSum.{degree_sum_least}
use Rattle.algebra.proofs.KoetterStart.{start_invariant}
use Rattle.algebra.proofs.KoetterStep.{steps_keep}

module _ {K : Type 0} (R : CommRing K) where
  -- where the conditions are few enough, some row is live
  pub live_row : (s D l : ℕ) (cs : List (Condition K)) (st : State K)
      → Invariant R s D l cs st
      → length cs + s * triangle l < l * D
      → (j : ℕ) × Live D l st j
  live_row s D l cs st inv h =
      let t : degree_sum l st.degrees ≤ s * triangle l + length cs = inv.total in
      let r : (j : ℕ) × (j < l) × (st.degrees j < D) = degree_sum_least l D st.degrees (omega arith) in
      (r.0, (r.1, r.2))

  -- every live row serves
  pub live_interpolates : (s D l : ℕ) (ps : List (Place K)) (st : State K)
      → Invariant R s D l (conditions_of ps) st
      → (j : ℕ)
      → Live D l st j
      → Interpolates R s D l ps (st.rows j)
  live_interpolates s D l ps st inv j h =
      record {
        nonzero = head_nonzero R s (st.degrees j) j (st.rows j) (inv.head j h);
        narrow = inv.narrow j h;
        weighted = head_weighted R s D (st.degrees j) j (st.rows j) h.1 (inv.head j h);
        vanishes = meet_multiplicities R D l (st.rows j) ps (inv.meets j h);
      }

module _ {K : Type 0} (F : Field K) where
  -- a run of steps over the conditions of places, from the start
  pub run_invariant : (s D l : ℕ) (ps : List (Place K)) (st st' : State K)
      → Start F.ring s D l st
      → Steps F D l (conditions_of ps) st st'
      → Invariant F.ring s D l (conditions_of ps) st'
  run_invariant s D l ps st st' h k =
      steps_keep F s D l [] (conditions_of ps) st st' (conditions_well_ordered ps) k (start_invariant F s D l st h)

  -- the number of conditions is what the inequality says
  pub places_live_row : (s D l : ℕ) (ps : List (Place K)) (st : State K)
      → Invariant F.ring s D l (conditions_of ps) st
      → condition_count ps + s * triangle l < l * D
      → (j : ℕ) × Live D l st j
  places_live_row s D l ps st inv h =
      let e : length (conditions_of ps) ≡ condition_count ps = conditions_length ps in
      live_row F.ring s D l (conditions_of ps) st inv (omega arith)
