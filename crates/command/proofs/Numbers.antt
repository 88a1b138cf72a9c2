-- Loops that read one number after another.
use Rattle.std.proofs.Common.{◌≡◌, ℕ, ◌+◌, ◌<◌, List, [], get_or, sym, subst, Bor, below_more}
use Rattle.command.specs.Lines.{texts}
use Rattle.command.specs.Runs.{Writes, WritesNone}
use Rattle.command.proofs.WordTexts.{text_at}

-- one more number is pushed
pub pushes_more : (P : ℕ → ℕ → Type 0) (xs ys : List ℕ) (i : ℕ) → ((k d : ℕ) → k < i → get_or ys k d ≡ get_or xs k d) → ((k : ℕ) → k < i → P k (get_or xs k 0)) → P i (get_or ys i 0) → (k : ℕ) → k < i + 1 → P k (get_or ys k 0)
pushes_more P xs ys i same before here = below_more (λ k. P k (get_or ys k 0)) i (λ k h. subst (P k) (sym (same k 0 h)) (before k h)) here

-- what stands at a word, from what stands at its text
pub writes_at : (k : ℕ) (words : List (Bor (List ℕ))) (i x y : ℕ) → Writes k (get_or words i (record { ref_ptr = (0, 0); now = [] })).now x → y ≡ x → Writes k (get_or (texts words) i []) y
writes_at k words i x y h e = subst (λ t. Writes k t y) (sym (text_at words i)) (subst (Writes k (get_or words i (record { ref_ptr = (0, 0); now = [] })).now) (sym e) h)

pub writes_none_at : (k : ℕ) (words : List (Bor (List ℕ))) (i : ℕ) → WritesNone k (get_or words i (record { ref_ptr = (0, 0); now = [] })).now → WritesNone k (get_or (texts words) i [])
writes_none_at k words i h = subst (WritesNone k) (sym (text_at words i)) h
