-- What is worked out so far is the value of the terms that are no longer left.
use Rattle.std.proofs.Common.{◌≡◌}
use Rattle.poly.proofs.NewtonForm.{Worked}
use Rattle.poly.proofs.newton.newton_value.Given as goal

abbrev pub invariant-loop-i : goal.invariant-loop-i
invariant-loop-i g l = (l.i-iterator.iter.count ≡ 0) × Worked (g.F.Field.meaning l.field) l.points l.coefficients l.z l.i-iterator.iter.iter.rest.now l.v
