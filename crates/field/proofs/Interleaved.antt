-- Shifting and reducing in turn gives the remainder of the product.
use Rattle.std.proofs.Common.{◌≡◌, ℕ, zero, suc, ◌+◌, ◌-◌, ◌*◌, ◌/◌, ◌%◌, ◌^◌, ◌<◌, ◌≤◌, Bool, T, eqb, ltb, sym, refl, ap, ◌∙◌, subst, one-mul, zero-mul, div-one, arith, eqb→eq, ltb→lt}
use lib.Bits.{bit_xor, xor_shr, xor_self, xor_lt, xor_zero_r}
use Rattle.std.proofs.lemmas.Nat.{shr-shr, mod_below, pow_pos}
use native.Mathlib.Nat.{sub-zero}
use Rattle.field.specs.Binary.{carryless, remainder, modulus_of, times, doubled}
use Rattle.field.specs.Additive.{Additive, agree, bounded}
use Rattle.field.specs.Degrees.{degrees, degree_listed}
use Rattle.field.specs.Polynomials.{xor_swap, bit_times, times_bit, double_xor, half_xor, times_left, times_right}
use Rattle.field.specs.Tests.{below, below_at, each, each_at}

-- the product by Horner's rule over the k bits of b, the highest first
unfoldable pub horner : ℕ → ℕ → ℕ → ℕ → ℕ
horner m zero a b = 0
horner m (suc k) a b = bit_xor (doubled (modulus_of m) m (horner m k a (b / 2))) (b % 2 * a)

horner_zero : (m a b : ℕ) → horner m 0 a b ≡ 0
unfolding horner
horner_zero m a b = refl

horner_suc : (m k a b : ℕ) → horner m (suc k) a b ≡ bit_xor (doubled (modulus_of m) m (horner m k a (b / 2))) (b % 2 * a)
unfolding horner
horner_suc m k a b = refl

doubled_additive : (modulus m : ℕ) → Additive (doubled modulus m)
unfolding doubled
doubled_additive modulus m a b =
    let bit : 2 * bit_xor a b / 2 ^ m % 2 * modulus ≡ bit_xor (2 * a / 2 ^ m % 2 * modulus) (2 * b / 2 ^ m % 2 * modulus) = ap (λ x. x / 2 ^ m % 2 * modulus) (double_xor a b) ∙ ap (λ x. x % 2 * modulus) (xor_shr (2 * a) (2 * b) m) ∙ bit_times modulus (2 * a / 2 ^ m) (2 * b / 2 ^ m) in
    ap (λ x. bit_xor x (2 * bit_xor a b / 2 ^ m % 2 * modulus)) (double_xor a b) ∙ ap (bit_xor (bit_xor (2 * a) (2 * b))) bit ∙ xor_swap (2 * a) (2 * b) (2 * a / 2 ^ m % 2 * modulus) (2 * b / 2 ^ m % 2 * modulus)

horner_left : (m k b : ℕ) → Additive (λ a. horner m k a b)
unfolding horner
horner_left m zero b a c = sym (xor_self 0)
horner_left m (suc k) b a c =
    let d = doubled (modulus_of m) m in
    ap (λ x. bit_xor (d x) (b % 2 * bit_xor a c)) (horner_left m k (b / 2) a c) ∙ ap (λ x. bit_xor x (b % 2 * bit_xor a c)) (doubled_additive (modulus_of m) m (horner m k a (b / 2)) (horner m k c (b / 2))) ∙ ap (bit_xor (bit_xor (d (horner m k a (b / 2))) (d (horner m k c (b / 2))))) (times_bit b a c) ∙ xor_swap (d (horner m k a (b / 2))) (d (horner m k c (b / 2))) (b % 2 * a) (b % 2 * c)

horner_right : (m k a : ℕ) → Additive (horner m k a)
unfolding horner
horner_right m zero a b c = sym (xor_self 0)
horner_right m (suc k) a b c =
    let d = doubled (modulus_of m) m in
    ap (λ x. bit_xor (d x) (bit_xor b c % 2 * a)) (ap (horner m k a) (half_xor b c) ∙ horner_right m k a (b / 2) (c / 2)) ∙ ap (λ x. bit_xor x (bit_xor b c % 2 * a)) (doubled_additive (modulus_of m) m (horner m k a (b / 2)) (horner m k a (c / 2))) ∙ ap (bit_xor (bit_xor (d (horner m k a (b / 2))) (d (horner m k a (c / 2))))) (bit_times a b c) ∙ xor_swap (d (horner m k a (b / 2))) (d (horner m k a (c / 2))) (b % 2 * a) (c % 2 * a)

horner_right_at : ℕ → ℕ → ℕ → Bool
horner_right_at m i j = eqb (horner m m (2 ^ i) (2 ^ j)) (times m (2 ^ i) (2 ^ j))

basis_right : T (each (λ m. below (λ i. below (horner_right_at m i) m) m) degrees)
unfolding each below horner_right_at horner doubled times carryless remainder degrees
basis_right = tt

-- twice an element, reduced, is an element
double_small : ℕ → ℕ → Bool
double_small m i = ltb (doubled (modulus_of m) m (2 ^ i)) (2 ^ m)

doubles_small : T (each (λ m. below (double_small m) m) degrees)
unfolding each below double_small doubled degrees
doubles_small = tt

module _ (m : ℕ) (low : 2 ≤ m) (high : m ≤ 8) where
  doubled_at : (i : ℕ) → i < m → doubled (modulus_of m) m (2 ^ i) < 2 ^ m
  unfolding double_small
  doubled_at i h = ltb→lt (doubled (modulus_of m) m (2 ^ i)) (2 ^ m) (below_at (double_small m) m (each_at (λ n. below (double_small n) n) degrees doubles_small m (degree_listed m low high)) i h)

  pub doubled_closed : (a : ℕ) → a < 2 ^ m → doubled (modulus_of m) m a < 2 ^ m
  doubled_closed = bounded (doubled (modulus_of m) m) (doubled_additive (modulus_of m) m) m m doubled_at

  horner_at : (i j : ℕ) → i < m → j < m → horner m m (2 ^ i) (2 ^ j) ≡ times m (2 ^ i) (2 ^ j)
  unfolding horner_right_at
  horner_at i j p q = eqb→eq (horner m m (2 ^ i) (2 ^ j)) (times m (2 ^ i) (2 ^ j)) (below_at (horner_right_at m i) m (below_at (λ x. below (horner_right_at m x) m) m (each_at (λ n. below (λ x. below (horner_right_at n x) n) n) degrees basis_right m (degree_listed m low high)) i p) j q)

  pub horner_times : (a b : ℕ) → a < 2 ^ m → b < 2 ^ m → horner m m a b ≡ times m a b
  horner_times a b h k = agree (λ x. horner m m x b) (λ x. times m x b) (horner_left m m b) (times_left m b) m (λ i p. agree (horner m m (2 ^ i)) (times m (2 ^ i)) (horner_right m m (2 ^ i)) (times_right m (2 ^ i)) m (λ j q. horner_at i j p q) b k) a h

-- one turn of Horner's rule: bit i of b comes in
pub horner_turn : (m i a b : ℕ) → i < m → horner m (m - i) a (b / 2 ^ i) ≡ bit_xor (doubled (modulus_of m) m (horner m (m - (i + 1)) a (b / 2 ^ (i + 1)))) (b / 2 ^ i % 2 * a)
horner_turn m i a b h =
    let n : m - i ≡ suc (m - (i + 1)) = omega arith in
    ap (λ k. horner m k a (b / 2 ^ i)) n ∙ horner_suc m (m - (i + 1)) a (b / 2 ^ i) ∙ ap (λ x. bit_xor (doubled (modulus_of m) m (horner m (m - (i + 1)) a x)) (b / 2 ^ i % 2 * a)) (shr-shr b i 1)

pub horner_none : (m a b : ℕ) → horner m (m - m) a (b / 2 ^ m) ≡ 0
horner_none m a b =
    let n : m - m ≡ 0 = omega arith in
    ap (λ k. horner m k a (b / 2 ^ m)) n ∙ horner_zero m a (b / 2 ^ m)

-- what a bit chooses
pub bit_takes : (b a : ℕ) → b % 2 ≡ 1 → a ≡ b % 2 * a
bit_takes b a e = sym (ap (λ x. x * a) e ∙ one-mul a)

pub bit_leaves : (b a : ℕ) → (b % 2 ≡ 1 → ⊥) → 0 ≡ b % 2 * a
bit_leaves b a n =
    let e : b % 2 ≡ 0 = omega (arith, mod_below b 2 (omega arith)) in
    sym (ap (λ x. x * a) e ∙ zero-mul a)

-- the invariant of the loop after the turn at i − 1, from the values that the turn leaves
pub horner_again : (m i a b product twice term : ℕ) → 2 ≤ m → m ≤ 8 → 0 < i → i ≤ m → a < 2 ^ m → product < 2 ^ m → product ≡ horner m (m - i) a (b / 2 ^ i) → twice ≡ doubled (modulus_of m) m product → term ≡ b / 2 ^ (i - 1) % 2 * a → (bit_xor twice term < 2 ^ m) × (bit_xor twice term ≡ horner m (m - (i - 1)) a (b / 2 ^ (i - 1)))
horner_again m i a b product twice term low high some within ha small inv d bit =
    let back : i - 1 + 1 ≡ i = omega arith in
    let term-small : term < 2 ^ m = subst (λ x. x < 2 ^ m) (sym bit) (bit_small (b / 2 ^ (i - 1))) in
    let turned = horner_turn m (i - 1) a b (omega arith) in
    let turned-at = subst (λ j. horner m (m - (i - 1)) a (b / 2 ^ (i - 1)) ≡ bit_xor (doubled (modulus_of m) m (horner m (m - j) a (b / 2 ^ j))) (b / 2 ^ (i - 1) % 2 * a)) back turned in
    (xor_lt m twice term (subst (λ x. x < 2 ^ m) (sym d) (doubled_closed m low high product small)) term-small, ap (λ x. bit_xor x term) (d ∙ ap (doubled (modulus_of m) m) inv) ∙ ap (bit_xor (doubled (modulus_of m) m (horner m (m - i) a (b / 2 ^ i)))) bit ∙ sym turned-at)
  where
    bit_small : (c : ℕ) → c % 2 * a < 2 ^ m
    bit_small c = go (c % 2) (mod_below c 2 (omega arith))
      where
        go : (r : ℕ) → r < 2 → r * a < 2 ^ m
        go zero h = subst (λ x. x < 2 ^ m) (sym (zero-mul a)) (pow_pos m)
        go (suc zero) h = subst (λ x. x < 2 ^ m) (sym (one-mul a)) ha
        go (suc (suc r)) h = absurd (omega (arith, h))

-- after the last bit the product stands
pub horner_all : (m i a b product : ℕ) → 2 ≤ m → m ≤ 8 → i ≤ 0 → a < 2 ^ m → b < 2 ^ m → product ≡ horner m (m - i) a (b / 2 ^ i) → product ≡ times m a b
horner_all m i a b product low high done ha hb inv =
    let z : i ≡ 0 = omega arith in
    let e = subst (λ j. product ≡ horner m (m - j) a (b / 2 ^ j)) z inv in
    e ∙ ap (λ k. horner m k a (b / 2 ^ 0)) (sub-zero m) ∙ ap (horner m m a) (div-one b) ∙ horner_times m low high a b ha hb

-- what doubling answers in its two cases
pub doubled_over : (modulus m a : ℕ) → a * 2 / 2 ^ m % 2 ≡ 1 → bit_xor (a * 2) modulus ≡ doubled modulus m a
unfolding doubled
doubled_over modulus m a e =
    let c : a * 2 ≡ 2 * a = omega arith in
    let f : 2 * a / 2 ^ m % 2 ≡ 1 = subst (λ x. x / 2 ^ m % 2 ≡ 1) c e in
    ap (λ x. bit_xor x modulus) c ∙ ap (bit_xor (2 * a)) (bit_takes (2 * a / 2 ^ m) modulus f)

pub doubled_under : (modulus m a : ℕ) → (a * 2 / 2 ^ m % 2 ≡ 1 → ⊥) → a * 2 ≡ doubled modulus m a
unfolding doubled
doubled_under modulus m a n =
    let c : a * 2 ≡ 2 * a = omega arith in
    let f : 2 * a / 2 ^ m % 2 ≡ 1 → ⊥ = subst (λ x. x / 2 ^ m % 2 ≡ 1 → ⊥) c n in
    c ∙ sym (xor_zero_r (2 * a)) ∙ ap (bit_xor (2 * a)) (bit_leaves (2 * a / 2 ^ m) modulus f)
