use Rattle.std.proofs.Common.{None, Some, refl}
use Rattle.console.specs.Kinds.{meaning_in}
use Rattle.console.proofs.Refusals.{refused}
use Rattle.console.proofs.WordsOut.{words_out, candidates_out, words_inside}
use Rattle.console.proofs.state.listed.Goals as goal

pub new-words-requires : goal.new-words-requires
new-words-requires c =
    let told = c.in_ok-listing.ensures in
    (words_inside c.args.plan.now (meaning_in c.args.field.now) c.args.heard.now _ c.list.new.list _ _ told.listed.listed c.n.ensures c.list.auto.list, c.list.auto.list)

pub returns : goal.returns
returns c =
    let told = c.in_ok-listing.ensures in
    let m = meaning_in c.args.field.now in
    let w = c.new-words.result in
    let made = c.new-words.ensures in
    (None, told.judged, (w, words_out c.args.plan.now m c.args.heard.now _ _ _ _ told.listed.listed w made.0 made.1 c.n.ensures made.2, candidates_out c.args.plan.now m c.args.heard.now _ _ _ _ _ _ told.listed w made.3, refl))

pub returns-in_err-listing : goal.returns-in_err-listing
returns-in_err-listing c = (Some c.in_err-listing.field-0.0, c.in_err-listing.ensures.judged, refused _ _ c.from_residual.ensures.1)
