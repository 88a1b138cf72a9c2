-- Before i the values are divided against place j, from i on they are as they were.
use Rattle.std.proofs.Common.{get_or}
use Rattle.poly.specs.Newton.{swept_at}
use Rattle.field.proofs.Making.{Upto}
use Rattle.poly.proofs.newton.sweep.Given as goal

abbrev pub invariant-loop-i : goal.invariant-loop-i
invariant-loop-i g l = Upto 0 (swept_at (g.F.Field.meaning l.field) l.points (λ i. get_or l.initial.values i 0) l.j) l.initial.values l.i l.values
