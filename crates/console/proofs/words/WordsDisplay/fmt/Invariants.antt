use Rattle.std.specs.Fmt.{HasWritten, IsPlainFormatter}
use Rattle.console.specs.Spaced.{lined, words_of}
use Rattle.console.proofs.words.WordsDisplay.fmt.Given as goal

-- what is written so far are the lines of the first words
abbrev pub invariant-loop-i : goal.invariant-loop-i
invariant-loop-i g l = IsPlainFormatter l.initial.f → HasWritten g.W.Write.write_str_gives l.initial.f (lined (words_of l.self.n l.i l.self.list)) l.f
