-- There is a polynomial that interpolates, and one of least weighted degree.
use mathlib.Core.Path.{◌≡◌, refl, sym, subst}
use mathlib.Core.List.{List}
use Prim.Native.Nat.{ℕ, zero, suc, ◌+◌, ◌*◌, ◌≤◌, ◌<◌}
use native.Mathlib.Omega.{arith}
use native.Mathlib.Decide.{dec_lt, ℕ_discrete}
use Rattle.algebra.specs.Ring.{CommRing, Field}
use Rattle.algebra.specs.Bivariate.{Bivariate, y_power}
use Rattle.algebra.specs.Places.{Place}
use Rattle.algebra.specs.Conditions.{conditions_of, triangle, condition_count}
use Rattle.algebra.specs.Koetter.{State, Live, Start, Steps, Invariant, Least, Interpolates}
use Rattle.algebra.proofs.KoetterLive.{run_invariant, places_live_row}
use Rattle.algebra.proofs.KoetterDegree.{run_least, live_degree, least_degree}
use Rattle.algebra.proofs.KoetterPivot.{steps_exist}

-- the least of finitely many numbers
least_index : (n : ℕ) (d : ℕ → ℕ) → 0 < n → (j : ℕ) × (j < n) × ((i : ℕ) → i < n → d j ≤ d i)
least_index zero d h = absurd (omega arith)
least_index (suc zero) d h = (0, omega arith, λ i k. let e : i ≡ 0 = omega arith in subst (λ x. d 0 ≤ d x) (sym e) (omega arith))
least_index (suc (suc n)) d h = go (least_index (suc n) d (omega arith))
  where
    go : (j : ℕ) × (j < suc n) × ((i : ℕ) → i < suc n → d j ≤ d i)
        → (j : ℕ) × (j < suc (suc n)) × ((i : ℕ) → i < suc (suc n) → d j ≤ d i)
    go r = compare (dec_lt (d (suc n)) (d r.0))
      where
        compare : Dec (d (suc n) < d r.0) → (j : ℕ) × (j < suc (suc n)) × ((i : ℕ) → i < suc (suc n) → d j ≤ d i)
        compare (yes k) = (suc n, omega arith, λ i t. each i t (ℕ_discrete i (suc n)))
          where
            each : (i : ℕ) → i < suc (suc n) → Dec (i ≡ suc n) → d (suc n) ≤ d i
            each i t (yes e) = subst (λ x. d (suc n) ≤ d x) (sym e) (omega arith)
            each i t (no e) = let q : d r.0 ≤ d i = r.2 i (omega arith) in omega arith
        compare (no k) = (r.0, (let q : r.0 < suc n = r.1 in omega arith), λ i t. each i t (ℕ_discrete i (suc n)))
          where
            each : (i : ℕ) → i < suc (suc n) → Dec (i ≡ suc n) → d r.0 ≤ d i
            each i t (yes e) = subst (λ x. d r.0 ≤ d x) (sym e) (omega arith)
            each i t (no e) = r.2 i (omega arith)

module _ {K : Type 0} (F : Field K) where
  abbrev R : CommRing K
  R = F.ring

  -- the powers of y, as a start
  abbrev first_state : ℕ → State K
  first_state s = record { rows = y_power R; degrees = λ j. s * j }

  -- where the conditions are few enough, there is a polynomial of least weighted degree that vanishes at the places
  pub interpolation_exists : (s D l : ℕ) (ps : List (Place K))
      → condition_count ps + s * triangle l < l * D
      → (e : ℕ)
      × (Q : Bivariate K)
      × (e < D)
      × Interpolates R s (suc e) l ps Q
      × ((W : ℕ) (P : Bivariate K) → Interpolates R s W l ps P → e < W)
  interpolation_exists s D l ps h =
      let run : (st : State K) × Steps F D l (conditions_of ps) (first_state s) st = steps_exist F D l (conditions_of ps) (first_state s) in
      let start : Start R s D l (first_state s) = record { row = λ j k. refl; degree = λ j k. refl } in
      let inv : Invariant R s D l (conditions_of ps) run.0 = run_invariant F s D l ps (first_state s) run.0 start run.1 in
      let lst : Least R s D l (conditions_of ps) run.0 = run_least F s D l ps (first_state s) run.0 start run.1 in
      let some : (j : ℕ) × Live D l run.0 j = places_live_row F s D l ps run.0 inv h in
      let a : some.0 < l = some.1.0 in
      let best : (j : ℕ) × (j < l) × ((i : ℕ) → i < l → run.0.degrees j ≤ run.0.degrees i) = least_index l run.0.degrees (omega arith) in
      let b : run.0.degrees best.0 ≤ run.0.degrees some.0 = best.2 some.0 a in
      let d : run.0.degrees some.0 < D = some.1.1 in
      let small : run.0.degrees best.0 < D = omega arith in (
        run.0.degrees best.0,
        run.0.rows best.0,
        small,
        live_degree F s D l ps run.0 inv best.0 (best.1, small),
        λ W P k. least_degree F s D l W ps run.0 P lst best.0 (best.1, small) best.2 k,
      )
