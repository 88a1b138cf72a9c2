use Rattle.std.proofs.Common.{sym, arith}
use Rattle.std.proofs.lemmas.List.{set_past}
use Rattle.roots.proofs.search.with.Goals as goal

pub returns-else-place-lt-WORD_LENGTH : goal.returns-else-place-lt-WORD_LENGTH
returns-else-place-lt-WORD_LENGTH c =
    sym (set_past c.args.word.now c.args.place c.args.g (omega (arith, c.told-word, c.if-place-lt-WORD_LENGTH.false)))
