-- Arithmetic modulo a prime.
use Rattle.std.specs.Prelude.{ℕ, ◌+◌, ◌-◌, ◌*◌, ◌%◌, ◌<◌, ◌≤◌, ◌≢◌}
use Rattle.field.specs.Meaning.{Meaning}
use Rattle.field.specs.Powers.{power}

-- p has no divisor from 2 to p − 1
abbrev pub Prime : ℕ → Type 0
Prime p = (2 ≤ p) × ((d : ℕ) → 2 ≤ d → d < p → p % d ≢ 0)

-- the product modulo p
abbrev pub times : ℕ → ℕ → ℕ → ℕ
times p a b = (a * b) % p

-- the field of the numbers below p: every element is a letter, the inverse of a is its power p − 2
abbrev pub modular : ℕ → Meaning
modular p = record {
  size = p;
  letters = p;
  sum = λ a b. (a + b) % p;
  negative = λ a. (p - a) % p;
  product = times p;
  inverse = λ a. power (times p) 8 1 a (p - 2);
}
