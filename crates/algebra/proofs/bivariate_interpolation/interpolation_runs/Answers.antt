-- The run keeps the invariant, and the invariant gives a live row.
use Prim.Native.Nat.{ℕ}
use Rattle.algebra.specs.Koetter.{Live, Invariant}
use Rattle.algebra.specs.Conditions.{conditions_of}
use Rattle.algebra.specs.Elements.{element_ring, elements}
use Rattle.algebra.proofs.ConditionCount.{uniform_inequality}
use Rattle.algebra.proofs.KoetterLive.{run_invariant, places_live_row, live_interpolates}
use Rattle.algebra.proofs.bivariate_interpolation.interpolation_runs.Goals as goal

pub returns : goal.returns
returns c = λ o law k s D l ps st st' u h b r.
    let inv : Invariant (element_ring o law) s D l (conditions_of ps) st' = run_invariant (elements o law) s D l ps st st' b r in
    let j : (j : ℕ) × Live D l st' j = places_live_row (elements o law) s D l ps st' inv (uniform_inequality k s D l ps u h) in
    (j.0, j.1, live_interpolates (element_ring o law) s D l ps st' inv j.0 j.1)
