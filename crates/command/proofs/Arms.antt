-- The words that the arm of a match has, and the numbers that it reads of them.
use Rattle.std.proofs.Common.{◌≡◌, ℕ, ◌+◌, ◌<◌, ◌≤◌, List, [], length, get_or, Ok, Err, Result, IsErrAnd, Bor, sym, ap, ◌∙◌, subst, arith}
use Rattle.std.proofs.lemmas.Result.{err_from_is_err_and}
use Rattle.command.specs.Lines.{texts, Word}
use Rattle.command.specs.Runs.{Given, Writes, WritesNone}
use Rattle.command.proofs.WordTexts.{length_texts, text_at}
use Rattle.console.specs.declared.answer.Answer.{Answer}
use Rattle.console.specs.declared.answer.Trouble.{Trouble}
use Rattle.console.specs.declared.answer.Trouble.TheVariants.{Number}

-- the error that a word makes which writes no number
pub not_a_number : (r : Result Answer Trouble) → IsErrAnd r (λ t. t ≡ Number) → r ≡ Err Number
not_a_number r h = let p = err_from_is_err_and r h in p.1 ∙ ap Err p.2

-- the text of word i, as a pattern reads it
abbrev pub read : List (Bor (List ℕ)) → ℕ → List ℕ
read words i = (get_or words i (record { ref_ptr = (0, 0); now = [] })).now

module _ (words : List (Bor (List ℕ))) where
  pub has_word : (i : ℕ) (text : List ℕ) → i < length words → read words i ≡ text → Word (texts words) i text
  has_word i text h e = (subst (λ n. i < n) (sym (length_texts words)) h, text_at words i ∙ e)

  pub has_count : (n : ℕ) → n ≤ length words → length words < n + 1 → length (texts words) ≡ n
  has_count n h l = length_texts words ∙ omega (arith, h, l)

  pub given : (k i x : ℕ) (Then : ℕ → Type 0) (Else : Type 0) → Writes k (read words i) x → Then x → Given k (get_or (texts words) i []) Then Else
  given k i x Then Else told h = (Ok x, subst (λ t. Writes k t x) (sym (text_at words i)) told, h)

  pub not_given : (k i : ℕ) (Then : ℕ → Type 0) (Else : Type 0) → WritesNone k (read words i) → Else → Given k (get_or (texts words) i []) Then Else
  not_given k i Then Else told h = (Err Number, subst (WritesNone k) (sym (text_at words i)) told, h)

  pub word_read : (i : ℕ) (text : List ℕ) → Word (texts words) i text → read words i ≡ text
  word_read i text w = sym (text_at words i) ∙ w.1
