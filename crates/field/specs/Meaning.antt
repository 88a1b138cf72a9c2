-- What a field means: its elements, its letters and its operations.
use Rattle.std.specs.Prelude.{ℕ, ◌<◌, cond, ◌&&◌, Some, None, Option, nat_lt}
use Rattle.algebra.specs.Operations.{Operations}

-- a finite field by its size, its number of letters and its operations on the numbers below the size
pub record Meaning : Type 0 where
  pub size : ℕ
  pub letters : ℕ
  pub sum : ℕ → ℕ → ℕ
  pub negative : ℕ → ℕ
  pub product : ℕ → ℕ → ℕ
  pub inverse : ℕ → ℕ

-- the operations alone, as the algebra takes them
abbrev pub operations : Meaning → Operations
operations m = record {
  size = m.size;
  sum = m.sum;
  negative = m.negative;
  product = m.product;
  inverse = m.inverse;
}

-- a number is an element if it is below the size
abbrev pub Element : Meaning → ℕ → Type 0
Element m a = a < m.size

-- a letter is an element below the number of letters
abbrev pub Letter : Meaning → ℕ → Type 0
Letter m a = (a < m.size) × (a < m.letters)

-- the sum of two elements, 0 where one of them is no element
abbrev pub sum_of : Meaning → ℕ → ℕ → ℕ
sum_of m a b = cond (nat_lt a m.size && nat_lt b m.size) (m.sum a b) 0

-- the negative of an element, 0 for what is no element
abbrev pub negative_of : Meaning → ℕ → ℕ
negative_of m a = cond (nat_lt a m.size) (m.negative a) 0

-- the product of two elements, 0 where one of them is no element
abbrev pub product_of : Meaning → ℕ → ℕ → ℕ
product_of m a b = cond (nat_lt a m.size && nat_lt b m.size) (m.product a b) 0

-- the inverse of an element, none for 0 and for what is no element
abbrev pub inverse_of : Meaning → ℕ → Option ℕ
inverse_of m a = cond (nat_lt 0 a && nat_lt a m.size) (Some (m.inverse a)) None
