-- The operations of a finite field whose elements are the numbers below a size, and the laws they keep.
use Rattle.std.specs.Prelude.{◌≡◌, ℕ, ◌<◌, ◌≤◌}

-- what a finite field does with its elements, the numbers below its size
pub record Operations : Type 0 where
  pub size : ℕ
  pub sum : ℕ → ℕ → ℕ
  pub negative : ℕ → ℕ
  pub product : ℕ → ℕ → ℕ
  pub inverse : ℕ → ℕ

-- the operations are those of a field
pub record Lawful (o : Operations) : Type 0 where
  pub two_elements : 2 ≤ o.size
  pub sum_closed : (a b : ℕ) → a < o.size → b < o.size → o.sum a b < o.size
  pub negative_closed : (a : ℕ) → a < o.size → o.negative a < o.size
  pub product_closed : (a b : ℕ) → a < o.size → b < o.size → o.product a b < o.size
  pub inverse_closed : (a : ℕ) → a < o.size → (a ≡ 0 → ⊥) → o.inverse a < o.size
  pub sum_commutes : (a b : ℕ) → a < o.size → b < o.size → o.sum a b ≡ o.sum b a
  pub sum_associates : (a b c : ℕ) → a < o.size → b < o.size → c < o.size → o.sum (o.sum a b) c ≡ o.sum a (o.sum b c)
  pub sum_zero : (a : ℕ) → a < o.size → o.sum a 0 ≡ a
  pub sum_negative : (a : ℕ) → a < o.size → o.sum a (o.negative a) ≡ 0
  pub product_commutes : (a b : ℕ) → a < o.size → b < o.size → o.product a b ≡ o.product b a
  pub product_associates : (a b c : ℕ) → a < o.size → b < o.size → c < o.size → o.product (o.product a b) c ≡ o.product a (o.product b c)
  pub product_one : (a : ℕ) → a < o.size → o.product 1 a ≡ a
  pub product_distributes : (a b c : ℕ) → a < o.size → b < o.size → c < o.size → o.product a (o.sum b c) ≡ o.sum (o.product a b) (o.product a c)
  pub product_inverse : (a : ℕ) → a < o.size → (a ≡ 0 → ⊥) → o.product a (o.inverse a) ≡ 1
