use Rattle.std.proofs.Common.{◌≡◌, ◌-◌, ◌/◌, ◌^◌, ◌<◌}
use Rattle.field.proofs.Interleaved.{horner}
use Rattle.field.proofs.binary.BinaryField.multiply.Given as goal

abbrev pub invariant-loop-i : goal.invariant-loop-i
invariant-loop-i l = (l.product < 2 ^ l.self.m) × (l.product ≡ horner l.self.m (l.self.m - l.i) l.a (l.b / 2 ^ l.i))
