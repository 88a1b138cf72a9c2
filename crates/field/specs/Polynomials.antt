-- Products and remainders of polynomials over two elements are additive in each argument.
use Rattle.std.specs.Prelude.{◌≡◌, ℕ, zero, suc, ◌+◌, ◌*◌, ◌/◌, ◌%◌, ◌^◌, ◌<◌, ◌⊎◌, bit_xor, refl}
use Rattle.std.proofs.Common.{sym, ap, ◌∙◌, inl, inr, zero-mul, one-mul, arith}
use Rattle.std.specs.Int.Bits.{xor_zero_l, xor_zero_r, xor_assoc, xor_self}
use Rattle.std.proofs.lemmas.Nat.{mod_below, xor_comm, xor_shr, xor_mod, xor_block}
use Rattle.field.specs.Binary.{carryless, remainder, modulus_of, times}
use Rattle.field.specs.Additive.{Additive}

pub xor_swap : (a b c d : ℕ) → bit_xor (bit_xor a b) (bit_xor c d) ≡ bit_xor (bit_xor a c) (bit_xor b d)
xor_swap a b c d =
    xor_assoc a b (bit_xor c d) ∙ ap (bit_xor a) (sym (xor_assoc b c d) ∙ ap (λ x. bit_xor x d) (xor_comm b c) ∙ xor_assoc c b d) ∙ sym (xor_assoc a c (bit_xor b d))

bit_of : (a : ℕ) → (a % 2 ≡ 0) ⊎ (a % 2 ≡ 1)
bit_of a = go (a % 2) (mod_below a 2 (omega arith))
  where
    go : (r : ℕ) → r < 2 → (r ≡ 0) ⊎ (r ≡ 1)
    go zero h = inl refl
    go (suc zero) h = inr refl
    go (suc (suc r)) h = absurd (omega (arith, h))

-- a multiple by a bit is additive in the number that has the bit
pub bit_times : (c : ℕ) → Additive (λ a. a % 2 * c)
bit_times c a b = ap (λ x. x * c) (xor_mod a b 1) ∙ go (bit_of a) (bit_of b)
  where
    go : (a % 2 ≡ 0) ⊎ (a % 2 ≡ 1) → (b % 2 ≡ 0) ⊎ (b % 2 ≡ 1) → bit_xor (a % 2) (b % 2) * c ≡ bit_xor (a % 2 * c) (b % 2 * c)
    go (inl p) (inl q) = rw (p, q) (zero-mul c ∙ sym (xor_self (0 * c)))
    go (inl p) (inr q) = rw (p, q) (sym (ap (λ x. bit_xor x (1 * c)) (zero-mul c) ∙ xor_zero_l (1 * c)))
    go (inr p) (inl q) = rw (p, q) (sym (ap (bit_xor (1 * c)) (zero-mul c) ∙ xor_zero_r (1 * c)))
    go (inr p) (inr q) = rw (p, q) (zero-mul c ∙ sym (xor_self (1 * c)))

-- and in the number that is multiplied
pub times_bit : (b : ℕ) → Additive (λ c. b % 2 * c)
times_bit b c d = go (bit_of b)
  where
    go : (b % 2 ≡ 0) ⊎ (b % 2 ≡ 1) → b % 2 * bit_xor c d ≡ bit_xor (b % 2 * c) (b % 2 * d)
    go (inl p) = rw p (zero-mul (bit_xor c d) ∙ sym (ap (λ x. bit_xor x (0 * d)) (zero-mul c) ∙ ap (bit_xor 0) (zero-mul d) ∙ xor_zero_l 0))
    go (inr p) = rw p (one-mul (bit_xor c d) ∙ sym (ap (λ x. bit_xor x (1 * d)) (one-mul c) ∙ ap (bit_xor c) (one-mul d)))

pub double_xor : Additive (λ a. 2 * a)
double_xor a b =
    let left : 2 * bit_xor a b ≡ bit_xor a b * 2 ^ 1 + bit_xor 0 0 = omega arith in
    let block = xor_block 1 a b 0 0 (omega arith) (omega arith) in
    let one : 2 * a ≡ a * 2 ^ 1 + 0 = omega arith in
    let two : 2 * b ≡ b * 2 ^ 1 + 0 = omega arith in
    left ∙ sym block ∙ ap (λ x. bit_xor x (b * 2 ^ 1 + 0)) (sym one) ∙ ap (bit_xor (2 * a)) (sym two)

pub half_xor : Additive (λ a. a / 2)
half_xor a b = xor_shr a b 1

pub carryless_left : (k b : ℕ) → Additive (λ a. carryless k a b)
unfolding carryless
carryless_left zero b a c = sym (xor_self 0)
carryless_left (suc k) b a c =
    ap (λ x. bit_xor x (carryless k (2 * bit_xor a c) (b / 2))) (times_bit b a c) ∙ ap (bit_xor (bit_xor (b % 2 * a) (b % 2 * c))) (ap (λ x. carryless k x (b / 2)) (double_xor a c) ∙ carryless_left k (b / 2) (2 * a) (2 * c)) ∙ xor_swap (b % 2 * a) (b % 2 * c) (carryless k (2 * a) (b / 2)) (carryless k (2 * c) (b / 2))

pub carryless_right : (k a : ℕ) → Additive (carryless k a)
unfolding carryless
carryless_right zero a b c = sym (xor_self 0)
carryless_right (suc k) a b c =
    ap (λ x. bit_xor x (carryless k (2 * a) (bit_xor b c / 2))) (bit_times a b c) ∙ ap (bit_xor (bit_xor (b % 2 * a) (c % 2 * a))) (ap (carryless k (2 * a)) (half_xor b c) ∙ carryless_right k (2 * a) (b / 2) (c / 2)) ∙ xor_swap (b % 2 * a) (c % 2 * a) (carryless k (2 * a) (b / 2)) (carryless k (2 * a) (c / 2))

pub remainder_additive : (modulus m k : ℕ) → Additive (remainder modulus m k)
unfolding remainder
remainder_additive modulus m zero a b = refl
remainder_additive modulus m (suc k) a b =
    let bit : bit_xor a b / 2 ^ (m + k) % 2 * (modulus * 2 ^ k) ≡ bit_xor (a / 2 ^ (m + k) % 2 * (modulus * 2 ^ k)) (b / 2 ^ (m + k) % 2 * (modulus * 2 ^ k)) = ap (λ x. x % 2 * (modulus * 2 ^ k)) (xor_shr a b (m + k)) ∙ bit_times (modulus * 2 ^ k) (a / 2 ^ (m + k)) (b / 2 ^ (m + k)) in
    ap (remainder modulus m k) (ap (bit_xor (bit_xor a b)) bit ∙ xor_swap a b (a / 2 ^ (m + k) % 2 * (modulus * 2 ^ k)) (b / 2 ^ (m + k) % 2 * (modulus * 2 ^ k))) ∙ remainder_additive modulus m k (bit_xor a (a / 2 ^ (m + k) % 2 * (modulus * 2 ^ k))) (bit_xor b (b / 2 ^ (m + k) % 2 * (modulus * 2 ^ k)))

pub times_left : (m b : ℕ) → Additive (λ a. times m a b)
unfolding times
times_left m b a c = ap (remainder (modulus_of m) m 8) (carryless_left 8 b a c) ∙ remainder_additive (modulus_of m) m 8 (carryless 8 a b) (carryless 8 c b)

pub times_right : (m a : ℕ) → Additive (times m a)
unfolding times
times_right m a b c = ap (remainder (modulus_of m) m 8) (carryless_right 8 a b c) ∙ remainder_additive (modulus_of m) m 8 (carryless 8 a b) (carryless 8 a c)
