use Rattle.interpolation.specs.Bases.{rows_of, degrees_of}
use Rattle.interpolation.proofs.LiftedRun.{InPlace}
use Rattle.interpolation.proofs.run.meet_place.Given as goal

abbrev pub invariant-loop-u : goal.invariant-loop-u
invariant-loop-u g l =
    InPlace (g.F.Field.meaning l.field) l.place l.u l.bounds.l l.bounds.bound l.bounds.weight (rows_of l.initial.basis) (degrees_of l.initial.basis) (rows_of l.basis) (degrees_of l.basis)
