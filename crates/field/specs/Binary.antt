-- Polynomials over two elements, their bits the coefficients, lowest first, modulo a polynomial of degree m.
use Rattle.std.specs.Prelude.{ℕ, zero, suc, ◌+◌, ◌-◌, ◌*◌, ◌/◌, ◌%◌, ◌^◌, ◌<◌, Bool, cond, List, [], ◌∷◌, ◌≢◌, bit_xor, slice_index}
use Rattle.field.specs.Meaning.{Meaning}
use Rattle.field.specs.Powers.{power}

-- the product of the polynomials a and b, for a b of at most k bits
unfoldable pub carryless : ℕ → ℕ → ℕ → ℕ
carryless zero a b = 0
carryless (suc k) a b = bit_xor (b % 2 * a) (carryless k (2 * a) (b / 2))

-- the remainder of the polynomial x by one of degree m, for an x of at most m + k bits
unfoldable pub remainder : ℕ → ℕ → ℕ → ℕ → ℕ
remainder modulus m zero x = x
remainder modulus m (suc k) x = remainder modulus m k (bit_xor x (x / 2 ^ (m + k) % 2 * (modulus * 2 ^ k)))

-- the moduli for the degrees 2 to 8
abbrev pub moduli : List ℕ
moduli = 7 ∷ 11 ∷ 19 ∷ 37 ∷ 67 ∷ 131 ∷ 285 ∷ []

-- the modulus for degree m
abbrev pub modulus_of : ℕ → ℕ
modulus_of m = slice_index moduli (m - 2)

-- the polynomial is no product of two polynomials of degree below m
abbrev pub Irreducible : ℕ → ℕ → Type 0
Irreducible m polynomial = (a b : ℕ) → a < 2 ^ m → b < 2 ^ m → carryless 8 a b ≢ polynomial

-- the product modulo the modulus for degree m: the remainder of the product of the polynomials
unfoldable pub times : ℕ → ℕ → ℕ → ℕ
times m a b = remainder (modulus_of m) m 8 (carryless 8 a b)

-- twice the polynomial a, that is a times x, reduced once
unfoldable pub doubled : ℕ → ℕ → ℕ → ℕ
doubled modulus m a = bit_xor (2 * a) (2 * a / 2 ^ m % 2 * modulus)

-- the field of 2 ^ m elements, with all of them or two as letters; the inverse of a is its power 2 ^ m − 2
abbrev pub binary : ℕ → Bool → Meaning
binary m all = record {
  size = 2 ^ m;
  letters = cond all (2 ^ m) 2;
  sum = bit_xor;
  negative = λ a. a;
  product = times m;
  inverse = λ a. power (times m) 8 1 a (2 ^ m - 2);
}
