-- The first digits of a number, as a part of all that an array holds.
use Rattle.std.proofs.Common.{◌≡◌, ℕ, ◌<◌, ◌≤◌, List, length, get_or, take, ◌∙◌, arith}
use Rattle.std.proofs.lemmas.List.{length-take-le, get_or-take}
use Rattle.std.proofs.lemmas.List.FromFn.{fill_by_all}
use Rattle.trial.specs.Words.{digit, digits_of}

pub first_digits : (xs : List ℕ) (k n number base : ℕ) → k ≤ n → length xs ≡ n → ((i : ℕ) → i < n → get_or xs i 0 ≡ digit number base i) → take k xs ≡ digits_of k number base
first_digits xs k n number base h long each =
    fill_by_all (λ i. digit number base i) (take k xs) k 0 (length-take-le k xs (omega arith)) (λ i l. get_or-take k xs i 0 l ∙ each i (omega arith))
