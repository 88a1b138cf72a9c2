use Rattle.std.proofs.Common.{◌≡◌, ℕ, ◌<◌, [], get_or, vec_items, vec_len}
use Rattle.command.specs.Lines.{texts}
use Rattle.command.specs.Runs.{Writes}
use Rattle.command.proofs.run.elements.Given as goal

abbrev pub invariant-loop-word : goal.invariant-loop-word
invariant-loop-word l = (vec_len l.numbers ≡ l.word-index) × ((k : ℕ) → k < l.word-index → Writes 16 (get_or (texts l.words) k []) (get_or (vec_items l.numbers) k 0))
