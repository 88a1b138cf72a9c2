use Rattle.bivariate.specs.Roots.{column_value_of}
use Rattle.bivariate.proofs.Searching.{Zeros}
use Rattle.bivariate.proofs.roots.vanishes_at.Given as goal

abbrev pub invariant-loop-i : goal.invariant-loop-i
invariant-loop-i g l = Zeros (column_value_of (g.F.Field.meaning l.field) l.g l.bounds.l l.q) l.i
