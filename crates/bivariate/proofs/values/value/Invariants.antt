use Rattle.std.proofs.Common.{length}
use Rattle.bivariate.proofs.Steps.{Evaluating}
use Rattle.bivariate.proofs.values.value.Given as goal

abbrev pub invariant-loop-c : goal.invariant-loop-c
invariant-loop-c g l =
    Evaluating (g.F.Field.meaning l.field) l.a l.row (length l.initial.c-iterator.iter.rest.now) l.c-iterator.iter.rest.now l.value
