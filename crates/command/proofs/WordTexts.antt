-- The texts of the words of a line.
use Rattle.std.proofs.Common.{◌≡◌, ℕ, List, [], length, get_or, Bor}
use lib.ListN.{length-map, get_or-map}
use Rattle.command.specs.Lines.{texts}

pub length_texts : (words : List (Bor (List ℕ))) → length (texts words) ≡ length words
length_texts words = length-map words (λ w. w.now)

-- the text of a word, as a contract has it and as the code reads it
pub text_at : (words : List (Bor (List ℕ))) (i : ℕ) → get_or (texts words) i [] ≡ (get_or words i (record { ref_ptr = (0, 0); now = [] })).now
text_at words i = get_or-map (λ (w : Bor (List ℕ)). w.now) words i (record { ref_ptr = (0, 0); now = [] })
