-- The values are divided against the first j places.
use Rattle.std.proofs.Common.{◌≡◌, length}
use Rattle.poly.specs.Newton.{made, reduced}
use Rattle.poly.proofs.newton.divided_differences.Given as goal

abbrev pub invariant-loop-j : goal.invariant-loop-j
invariant-loop-j g l = l.values ≡ made (length l.initial.values) (reduced (g.F.Field.meaning l.field) l.points l.initial.values l.j)
