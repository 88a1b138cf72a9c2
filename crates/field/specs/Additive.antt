-- Functions that take the exclusive or to the exclusive or are known by their values at the powers of 2.
use Rattle.std.specs.Prelude.{◌≡◌, ℕ, zero, suc, ◌*◌, ◌/◌, ◌%◌, ◌^◌, ◌<◌, ◌⊎◌, bit_xor, refl}
use Rattle.std.proofs.Common.{sym, ap, ◌∙◌, subst, inl, inr, zero-mul, one-mul, pow-suc, arith, pow_pos}
use Rattle.std.specs.Int.Bits.{xor_self, xor_shifted}
use Rattle.std.proofs.lemmas.Nat.{shr_split, div_below, mod_below, xor_lt}

abbrev pub Additive : (ℕ → ℕ) → Type 0
Additive f = (a b : ℕ) → f (bit_xor a b) ≡ bit_xor (f a) (f b)

pub additive_zero : (f : ℕ → ℕ) → Additive f → f 0 ≡ 0
additive_zero f h = h 0 0 ∙ xor_self (f 0)

-- the bit above k bits, and the rest
bit_split : (k a : ℕ) → a ≡ bit_xor (a / 2 ^ k * 2 ^ k) (a % 2 ^ k)
bit_split k a = sym (xor_shifted (a / 2 ^ k) k (a % 2 ^ k) (mod_below a (2 ^ k) (pow_pos k)) ∙ shr_split a k)

top_bit : (k a : ℕ) → a < 2 ^ suc k → (a / 2 ^ k ≡ 0) ⊎ (a / 2 ^ k ≡ 1)
top_bit k a h = go (a / 2 ^ k) (div_below a (2 ^ k) 2 (pow_pos k) (subst (λ x. a < x) (pow-suc 2 k ∙ omega arith) h))
  where
    go : (q : ℕ) → q < 2 → (q ≡ 0) ⊎ (q ≡ 1)
    go zero l = inl refl
    go (suc zero) l = inr refl
    go (suc (suc q)) l = absurd (omega (arith, l))

-- what holds at the powers of 2 and is kept by the exclusive or holds below 2 ^ m
pub by_bits : (P : ℕ → Type 0) → P 0 → ((a b : ℕ) → P a → P b → P (bit_xor a b)) → (m : ℕ) → ((i : ℕ) → i < m → P (2 ^ i)) → (a : ℕ) → a < 2 ^ m → P a
by_bits P none join zero at a h = subst P (omega (arith, h)) none
by_bits P none join (suc m) at a h =
    subst P (sym (bit_split m a)) (join (a / 2 ^ m * 2 ^ m) (a % 2 ^ m) (high (top_bit m a h)) (by_bits P none join m (λ i l. at i (omega arith)) (a % 2 ^ m) (mod_below a (2 ^ m) (pow_pos m))))
  where
    high : (a / 2 ^ m ≡ 0) ⊎ (a / 2 ^ m ≡ 1) → P (a / 2 ^ m * 2 ^ m)
    high (inl e) = subst P (sym (ap (λ q. q * 2 ^ m) e ∙ zero-mul (2 ^ m))) none
    high (inr e) = subst P (sym (ap (λ q. q * 2 ^ m) e ∙ one-mul (2 ^ m))) (at m (omega arith))

-- two additive functions that agree at the powers of 2 agree
pub agree : (f g : ℕ → ℕ) → Additive f → Additive g → (m : ℕ) → ((i : ℕ) → i < m → f (2 ^ i) ≡ g (2 ^ i)) → (a : ℕ) → a < 2 ^ m → f a ≡ g a
agree f g af ag = by_bits (λ x. f x ≡ g x) (additive_zero f af ∙ sym (additive_zero g ag)) (λ a b p q. af a b ∙ ap (λ x. bit_xor x (f b)) p ∙ ap (bit_xor (g a)) q ∙ sym (ag a b))

-- an additive function that is below 2 ^ n at the powers of 2 is below it
pub bounded : (f : ℕ → ℕ) → Additive f → (n m : ℕ) → ((i : ℕ) → i < m → f (2 ^ i) < 2 ^ n) → (a : ℕ) → a < 2 ^ m → f a < 2 ^ n
bounded f af n = by_bits (λ x. f x < 2 ^ n) (subst (λ x. x < 2 ^ n) (sym (additive_zero f af)) (pow_pos n)) (λ a b p q. subst (λ x. x < 2 ^ n) (sym (af a b)) (xor_lt n (f a) (f b) p q))
