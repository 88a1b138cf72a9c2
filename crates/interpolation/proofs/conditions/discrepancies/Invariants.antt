use Rattle.interpolation.proofs.BasisLists.{Discrepant}
use Rattle.interpolation.proofs.conditions.discrepancies.Given as goal

abbrev pub invariant-loop-j : goal.invariant-loop-j
invariant-loop-j g l =
    Discrepant (g.F.Field.meaning l.field) l.basis l.fn.bounds.l l.fn.bounds.bound l.fn.bounds.weight l.condition.a l.condition.b l.condition.u l.condition.r l.j l.result
