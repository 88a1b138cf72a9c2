-- What is refused when a list is read as letters, and what is known where nothing is.
use Rattle.std.proofs.Common.{◌≡◌, ℕ, List, length, get_or, Some, None, ⊎_elim, arith}
use Rattle.std.proofs.lemmas.Bool.{cases_eq, cases_lt}
use Rattle.fault.specs.First.{First, Judged}
use Rattle.field.specs.Meaning.{Meaning, Letter as IsLetter}
use Rattle.plan.specs.declared.Plan.{Plan}
use Rattle.plan.specs.Checks.{FirstBad}
use Rattle.code.specs.declared.refusal.CodeFault.TheVariants.{Field, Length, Letter}
use Rattle.code.specs.Codes.{Letters}
use Rattle.code.specs.Faults.{refusal_of, NoLetter, ReadFails}
use Rattle.code.proofs.Order.{first_length, first_letter, no_fault}

-- whether a number is a letter can be decided
letter_stands : (m : Meaning) (a : ℕ) → ((IsLetter m a → ⊥) → ⊥) → IsLetter m a
letter_stands m a h = ⊎_elim
    (λ k. ⊎_elim (λ l. (k, l)) (λ l. absurd (h (λ s. omega (arith, s.1)))) (cases_lt a m.letters))
    (λ k. absurd (h (λ s. omega (arith, s.0))))
    (cases_lt a m.size)

-- no place without a letter: a list of letters
pub all_letters : (m : Meaning) (xs : List ℕ) → FirstBad (NoLetter m xs) (length xs) None → Letters m xs
all_letters m xs h i k = letter_stands m (get_or xs i 0) (h i k)

module _ (p : Plan) (m : Meaning) (long : ℕ) (xs : List ℕ) where
  pub read_length : p.size ≡ m.size → (length xs ≡ long → ⊥) → Judged refusal_of (ReadFails p m long xs) (Some Length)
  read_length s ne = first_length (ReadFails p m long xs) (λ z. z s) (λ z. z) ne

  pub read_letter : (i : ℕ) → p.size ≡ m.size → ((length xs ≡ long → ⊥) → ⊥) → FirstBad (NoLetter m xs) (length xs) (Some i) → Judged refusal_of (ReadFails p m long xs) (Some (Letter i))
  read_letter i s l h = first_letter (ReadFails p m long xs) (λ z. z s) (λ z. z) l i (h.0, h.1) (λ j k f. h.2 j k f.1)

  pub read_all : p.size ≡ m.size → ((length xs ≡ long → ⊥) → ⊥) → FirstBad (NoLetter m xs) (length xs) None → Judged refusal_of (ReadFails p m long xs) None
  read_all s l h =
      no_fault (ReadFails p m long xs) (λ z. z s) (λ z. z) l (λ i f. h i f.0 f.1) (λ z. z) (λ z. z) (λ z. z)

  pub same_size : First refusal_of (ReadFails p m long xs) None → p.size ≡ m.size
  same_size h = ⊎_elim (λ e. e) (λ ne. absurd (h Field ne)) (cases_eq p.size m.size)

  pub same_length : First refusal_of (ReadFails p m long xs) None → length xs ≡ long
  same_length h = ⊎_elim (λ e. e) (λ ne. absurd (h Length ne)) (cases_eq (length xs) long)

  pub letters : First refusal_of (ReadFails p m long xs) None → Letters m xs
  letters h = all_letters m xs (λ i k f. h (Letter i) (k, f))
