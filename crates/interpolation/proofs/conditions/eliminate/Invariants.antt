use Rattle.interpolation.proofs.BasisLists.{Eliminating}
use Rattle.interpolation.proofs.conditions.eliminate.Given as goal

abbrev pub invariant-loop-j : goal.invariant-loop-j
invariant-loop-j g l =
    Eliminating (g.F.Field.meaning l.field) l.source l.factor l.bounds.l l.bounds.bound l.bounds.weight l.discrepancies l.initial.basis l.j l.basis
