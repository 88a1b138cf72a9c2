use Rattle.bivariate.proofs.Steps.{Nested}
use Rattle.bivariate.proofs.values.multiply_x_plus.Given as goal

abbrev pub invariant-loop-coefficient : goal.invariant-loop-coefficient
invariant-loop-coefficient g l =
    Nested (g.F.Field.meaning l.field) l.len l.a l.c l.fn.row l.coefficient-index-end l.coefficient-index l.coefficient-items l.carry
