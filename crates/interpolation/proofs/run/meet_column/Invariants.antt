use Rattle.interpolation.specs.Bases.{rows_of, degrees_of}
use Rattle.interpolation.proofs.LiftedRun.{InColumn}
use Rattle.interpolation.proofs.run.meet_column.Given as goal

abbrev pub invariant-loop-r : goal.invariant-loop-r
invariant-loop-r g l =
    InColumn (g.F.Field.meaning l.field) l.place.abscissa l.place.ordinate l.u l.r l.bounds.l l.bounds.bound l.bounds.weight (rows_of l.initial.basis) (degrees_of l.initial.basis) (rows_of l.basis) (degrees_of l.basis)
