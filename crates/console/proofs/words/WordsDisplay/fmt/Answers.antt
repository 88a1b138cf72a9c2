use Rattle.std.proofs.Common.{◌≡◌, ℕ, refl, ap, arith}
use Rattle.std.proofs.Output.{writes_in_calls_nil, has_written_append, has_written_of_eq}
use Rattle.console.specs.Spaced.{lined, words_of}
use Rattle.console.proofs.LinedText.{lined_more}
use Rattle.console.proofs.words.WordsDisplay.fmt.Goals as goal

pub loop-i-init : goal.loop-i-init
loop-i-init g c p = record { wrote = writes_in_calls_nil g.W.Write.write_str_gives _; plain = p }

pub loop-i-preserved : goal.loop-i-preserved
loop-i-preserved g c p =
    let took = g.W.Write.write_str_gives in
    let words = c.args.self.now in
    let before = c.loop-i.invariant p in
    has_written_of_eq took _ _ _ _ (lined_more words.n words.list c.loop-i.i c.word.result.now c.word.ensures) (has_written_append took _ _ _ _ _ before (c.in_ok-write.ensures.writes before.plain refl))

pub returns-clause-writes : goal.returns-clause-writes
returns-clause-writes g c p _ =
    let words = c.args.self.now in
    let e : c.loop-i.i ≡ words.count = omega (arith, c.loop-i-test.false, c.loop-i.auto.i-end) in
    has_written_of_eq g.W.Write.write_str_gives _ _ _ _ (ap (λ (k : ℕ). lined (words_of words.n k words.list)) e) (c.loop-i.invariant p)
