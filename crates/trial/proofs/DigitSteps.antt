-- One digit more of a number.
use Rattle.std.proofs.Common.{◌≡◌, ℕ, ◌+◌, ◌%◌, ◌/◌, ◌^◌, ◌<◌, ◌≢◌, max, List, length, get_or, set, ap, ap₂, ◌∙◌, arith, get_or-set_other, get_or-set_same, below_more}
use Rattle.std.proofs.Math.Nat.{div-div-eq-div-mul}
use Rattle.trial.specs.Words.{digit}
use Rattle.trial.proofs.Powers.{pow_more}

module _ (number base i rest b : ℕ) (same : b ≡ max base 2) (left : rest ≡ number / max base 2 ^ i) where
  pub rest_after : rest / b ≡ number / max base 2 ^ (i + 1)
  rest_after =
      ap₂ (λ x y. x / y) left same ∙ div-div-eq-div-mul number (max base 2 ^ i) (max base 2) ∙ ap (λ x. number / x) (pow_more (max base 2) i)

  pub digits_after : (xs : List ℕ) → i < length xs → ((k : ℕ) → k < i → get_or xs k 0 ≡ digit number base k) → (k : ℕ) → k < i + 1 → get_or (set xs i (rest % b)) k 0 ≡ digit number base k
  digits_after xs within before =
      below_more (λ k. get_or (set xs i (rest % b)) k 0 ≡ digit number base k) i kept (get_or-set_same xs i (rest % b) 0 within ∙ ap₂ (λ x y. x % y) left same)
    where
      kept : (k : ℕ) → k < i → get_or (set xs i (rest % b)) k 0 ≡ digit number base k
      kept k h = let ne : k ≢ i = omega arith in rw get_or-set_other (before k h)
