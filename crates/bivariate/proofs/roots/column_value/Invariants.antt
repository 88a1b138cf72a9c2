use Rattle.bivariate.proofs.Searching.{Valuing}
use Rattle.bivariate.proofs.roots.column_value.Given as goal

abbrev pub invariant-loop-row : goal.invariant-loop-row
invariant-loop-row g l = Valuing (g.F.Field.meaning l.field) l.g l.fn.bounds.l l.q l.i l.row-iterator.iter.rest.now l.value
