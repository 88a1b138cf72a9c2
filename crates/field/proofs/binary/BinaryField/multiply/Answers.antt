use Rattle.std.proofs.Common.{◌≡◌, ◌-◌, ◌*◌, ◌/◌, ◌%◌, ◌^◌, sym, ◌∙◌, subst, arith, pow_pos}
use Rattle.field.proofs.Interleaved.{horner, horner_none, horner_again, horner_all, bit_takes, bit_leaves}
use Rattle.field.proofs.binary.BinaryField.multiply.Goals as goal
use Rattle.field.proofs.binary.BinaryField.multiply.Goals.{then-b-i-eq1, else-b-i-eq1}

pub loop-i-init : goal.loop-i-init
loop-i-init c =
    let m = c.args.self.now.m in
    (pow_pos m, sym (subst (λ i. horner m (m - i) c.args.a (c.args.b / 2 ^ i) ≡ 0) (sym c.degree-i.ensures) (horner_none m c.args.a c.args.b)))

pub loop-i-preserved : goal.loop-i-preserved
loop-i-preserved c =
    let f = c.args.self.now in
    let chosen : c.if-b-i-eq1.term ≡ c.args.b / 2 ^ (c.loop-i.i - 1) % 2 * c.args.a = elim c.if-b-i-eq1.branch [
      | then-b-i-eq1 w ↦ w.term-is ∙ bit_takes _ _ w.if-b-i-eq1.true
      | else-b-i-eq1 w ↦ w.term-is ∙ bit_leaves _ _ w.if-b-i-eq1.false
    ] in
    horner_again f.m c.loop-i.i c.args.a c.args.b c.loop-i.product _ _ f.above f.below c.loop-i-test.true (omega (arith, c.loop-i.auto.i, c.degree-i.ensures)) c.requires.0 c.loop-i.invariant.0 c.loop-i.invariant.1 c.double.ensures chosen

pub returns : goal.returns
returns c =
    let f = c.args.self.now in
    horner_all f.m c.loop-i.i c.args.a c.args.b c.loop-i.product f.above f.below c.loop-i-test.false c.requires.0 c.requires.1 c.loop-i.invariant.1
