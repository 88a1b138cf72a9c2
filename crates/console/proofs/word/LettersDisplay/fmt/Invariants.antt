use Rattle.std.proofs.Common.{take}
use Rattle.std.specs.Fmt.{HasWritten, IsPlainFormatter}
use Rattle.console.specs.Spaced.{spaced}
use Rattle.console.proofs.word.LettersDisplay.fmt.Given as goal

-- what is written so far is the front of the word
abbrev pub invariant-loop-letter : goal.invariant-loop-letter
invariant-loop-letter g l = IsPlainFormatter l.initial.f → HasWritten g.W.Write.write_str_gives l.initial.f (spaced (take l.letter-index l.self.letters.now)) l.f
