use Rattle.std.proofs.Common.{None, Some, refl}
use Rattle.console.specs.Kinds.{meaning_in}
use Rattle.console.proofs.Refusals.{refused}
use Rattle.console.proofs.WordsOut.{word_out}
use Rattle.console.proofs.state.written.Goals as goal

pub returns : goal.returns
returns c =
    let told = c.in_ok-write.ensures in
    (None, told.judged, (c.new.result, word_out c.args.plan.now (meaning_in c.args.field.now) c.args.content.now _ _ c.new.result _ told.written c.new.ensures.0 c.new.ensures.1 c.n.ensures, refl))

pub returns-in_err-write : goal.returns-in_err-write
returns-in_err-write c = (Some c.in_err-write.field-0.0, c.in_err-write.ensures.judged, refused _ _ c.from_residual.ensures.1)
