-- The live row of least degree has the least weighted degree of all polynomials that vanish at the places.
use mathlib.Core.List.{List, []}
use Prim.Native.Nat.{ℕ, suc, ◌≤◌, ◌<◌}
use native.Mathlib.Omega.{arith}
use native.Mathlib.Decide.{dec_le}
use Rattle.algebra.specs.Ring.{CommRing, Field}
use Rattle.algebra.specs.Bivariate.{Bivariate, Weighted}
use Rattle.algebra.specs.Places.{Place}
use Rattle.algebra.specs.Conditions.{MeetsAll, conditions_of}
use Rattle.algebra.specs.Koetter.{State, Live, Head, Start, Steps, Invariant, Least, Interpolates}
use Rattle.algebra.proofs.Bivariate.{below_weighted}
use Rattle.algebra.proofs.PlaceConditions.{conditions_well_ordered}
use Rattle.algebra.proofs.ConditionsMet.{meet_multiplicities, multiplicities_meet}
use Rattle.algebra.proofs.ConditionMultiples.{meets_raise, meets_lower}
use Rattle.algebra.proofs.Head.{head_weighted, head_nonzero, head_narrow}
use Rattle.algebra.proofs.HeadSearch.{find_head}
use Rattle.algebra.proofs.KoetterStart.{start_invariant, start_least}
use Rattle.algebra.proofs.KoetterLeast.{steps_least}

module _ {K : Type 0} (F : Field K) where
  abbrev R : CommRing K
  R = F.ring

  -- after a run of steps over the conditions of places the degrees are least
  pub run_least : (s D l : ℕ) (ps : List (Place K)) (st st' : State K)
      → Start R s D l st
      → Steps F D l (conditions_of ps) st st'
      → Least R s D l (conditions_of ps) st'
  run_least s D l ps st st' h k =
      steps_least
      F
      s
      D
      l
      []
      (conditions_of ps)
      st
      st'
      (conditions_well_ordered ps)
      k
      (start_invariant F s D l st h)
      (start_least F s D l st h)

  -- a polynomial of weighted degree below W, at most D, leaves a row of degree below W
  pub row_below : (s D l W : ℕ) (ps : List (Place K)) (st : State K) (P : Bivariate K)
      → Least R s D l (conditions_of ps) st
      → W ≤ D
      → Interpolates R s W l ps P
      → (j : ℕ) × (j < l) × (st.degrees j < W)
  row_below s D l W ps st P lst h k = go (find_head F s l W P k.narrow k.weighted k.nonzero)
    where
      met : MeetsAll R D l P (conditions_of ps)
      met =
          meets_raise
          R
          W
          D
          l
          P
          (conditions_of ps)
          h
          (below_weighted R s W P k.weighted)
          (multiplicities_meet R W l P ps k.vanishes)

      go : (e j : ℕ) × (e < W) × Head R s e j P → (j : ℕ) × (j < l) × (st.degrees j < W)
      go r =
          let a : r.0 < W = r.2 in
          let b : st.degrees r.1 ≤ r.0 = lst.bound P r.0 r.1 (omega arith) k.narrow r.3 met in
          (r.1, head_narrow R s l r.0 r.1 P k.narrow r.3, omega arith)

  -- a live row vanishes at the places, and its degree is its weighted degree
  pub live_degree : (s D l : ℕ) (ps : List (Place K)) (st : State K)
      → Invariant R s D l (conditions_of ps) st
      → (j : ℕ)
      → Live D l st j
      → Interpolates R s (suc (st.degrees j)) l ps (st.rows j)
  live_degree s D l ps st inv j h =
      let w : Weighted R s (suc (st.degrees j)) (st.rows j) = head_weighted R s (suc (st.degrees j)) (st.degrees j) j (st.rows j) (omega arith) (inv.head j h) in
      record {
        nonzero = head_nonzero R s (st.degrees j) j (st.rows j) (inv.head j h);
        narrow = inv.narrow j h;
        weighted = w;
        vanishes = meet_multiplicities
            R
            (suc (st.degrees j))
            l
            (st.rows j)
            ps
            (meets_lower
            R
            (suc (st.degrees j))
            D
            l
            (st.rows j)
            (conditions_of ps)
            h.1
            (below_weighted R s (suc (st.degrees j)) (st.rows j) w)
            (inv.meets j h));
      }

  -- no polynomial that vanishes at the places has a weighted degree below that of the live row of least degree
  pub least_degree : (s D l W : ℕ) (ps : List (Place K)) (st : State K) (P : Bivariate K)
      → Least R s D l (conditions_of ps) st
      → (j : ℕ)
      → Live D l st j
      → ((i : ℕ) → i < l → st.degrees j ≤ st.degrees i)
      → Interpolates R s W l ps P
      → st.degrees j < W
  least_degree s D l W ps st P lst j h m k = go (dec_le W D)
    where
      go : Dec (W ≤ D) → st.degrees j < W
      go (no n) = let a : st.degrees j < D = h.1 in omega arith
      go (yes n) =
          let r : (i : ℕ) × (i < l) × (st.degrees i < W) = row_below s D l W ps st P lst n k in
          let a : st.degrees j ≤ st.degrees r.0 = m r.0 r.1 in
          let b : st.degrees r.0 < W = r.2 in
          omega arith
