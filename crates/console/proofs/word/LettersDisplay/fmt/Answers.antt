use Rattle.std.proofs.Common.{refl, ap, take_all}
use Rattle.std.proofs.Output.{writes_in_calls_nil, has_written_append, has_written_of_eq}
use Rattle.console.specs.Spaced.{spaced}
use Rattle.console.proofs.SpacedText.{spaced_more}
use Rattle.console.proofs.word.LettersDisplay.fmt.Goals as goal

pub loop-letter-init : goal.loop-letter-init
loop-letter-init g c p = record { wrote = writes_in_calls_nil g.W.Write.write_str_gives _; plain = p }

pub loop-letter-preserved : goal.loop-letter-preserved
loop-letter-preserved g c p =
    let took = g.W.Write.write_str_gives in
    let before = c.loop-letter.invariant p in
    has_written_of_eq took _ _ _ _ (spaced_more c.args.self.now.letters.now c.loop-letter.letter-index c.loop-letter-test.true) (has_written_append took _ _ _ _ _ before (c.in_ok-write.ensures.writes before.plain refl))

pub returns-clause-writes : goal.returns-clause-writes
returns-clause-writes g c p _ = has_written_of_eq g.W.Write.write_str_gives _ _ _ _ (ap spaced (take_all _ _ c.loop-letter-test.false)) (c.loop-letter.invariant p)
