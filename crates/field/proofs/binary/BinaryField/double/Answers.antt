use Rattle.std.proofs.Common.{◌≡◌, ◌*◌, ◌/◌, ◌%◌, ◌^◌, ap, ◌∙◌, subst}
use Rattle.field.specs.Binary.{modulus_of}
use lib.Bits.{bit_xor}
use Rattle.field.proofs.Interleaved.{doubled_over, doubled_under}
use Rattle.field.proofs.binary.BinaryField.double.Goals as goal

pub returns-then-twice-degree-eq1 : goal.returns-then-twice-degree-eq1
returns-then-twice-degree-eq1 c =
    let m = c.args.self.now.m in
    ap (bit_xor (c.args.a * 2)) c.modulus.ensures ∙ doubled_over (modulus_of m) m c.args.a (subst (λ d. c.args.a * 2 / 2 ^ d % 2 ≡ 1) c.degree.ensures c.if-twice-degree-eq1.true)

pub returns-else-twice-degree-eq1 : goal.returns-else-twice-degree-eq1
returns-else-twice-degree-eq1 c =
    let m = c.args.self.now.m in
    doubled_under (modulus_of m) m c.args.a (subst (λ d. c.args.a * 2 / 2 ^ d % 2 ≡ 1 → ⊥) c.degree.ensures c.if-twice-degree-eq1.false)
