use Rattle.interpolation.specs.Bases.{rows_of, degrees_of}
use Rattle.interpolation.proofs.LiftedRun.{Reached}
use Rattle.interpolation.proofs.run.meet_places.Given as goal

abbrev pub invariant-loop-place : goal.invariant-loop-place
invariant-loop-place g l =
    Reached (g.F.Field.meaning l.field) l.places l.place-index l.bounds.l l.bounds.bound l.bounds.weight (rows_of l.basis) (degrees_of l.basis)
