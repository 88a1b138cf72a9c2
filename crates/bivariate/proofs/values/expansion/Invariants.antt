use Rattle.std.proofs.Common.{length}
use Rattle.bivariate.proofs.Steps.{Expanding}
use Rattle.bivariate.proofs.values.expansion.Given as goal

abbrev pub invariant-loop-c : goal.invariant-loop-c
invariant-loop-c g l =
    Expanding (g.F.Field.meaning l.field) l.a l.order l.row (length l.initial.c-iterator.iter.rest.now) l.c-iterator.iter.rest.now l.h
