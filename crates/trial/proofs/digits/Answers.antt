use Rattle.std.proofs.Common.{◌∙◌, arith, rules}
use Rattle.trial.proofs.DigitSteps.{rest_after, digits_after}
use Rattle.trial.proofs.digits.Goals as goal

pub loop-place-preserved : goal.loop-place-preserved
loop-place-preserved g c =
    let before = c.loop-place.invariant in
    let same = c.from-base.ensures ∙ c.max.ensures in record {
      many = search rules;
      left = rest_after c.args.number c.args.base _ _ _ same before.left;
      each = digits_after c.args.number c.args.base c.loop-place.place-index c.loop-place.rest _ same before.left c.loop-place.place-items (omega arith) before.each;
    }
