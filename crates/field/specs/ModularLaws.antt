-- Sums and products modulo m keep the laws of a ring.
use Rattle.std.specs.Prelude.{◌≡◌, ℕ, ◌+◌, ◌-◌, ◌*◌, ◌/◌, ◌%◌, ◌<◌}
use Rattle.std.proofs.Common.{sym, ap, ◌∙◌, add_comm, add_assoc, mul_comm, mul_assoc, mul-add, add-mul, one-mul, add-zero, mod-eq_of_lt, arith}
use Rattle.std.proofs.Math.Nat.{mod-add-mod, add-mod-mod, mod_self, add-mul-mod_self_right, mod-add-div'}

pub mod_mul_mod : (a b m : ℕ) → (a % m) * b % m ≡ a * b % m
mod_mul_mod a b m =
    let split : a * b ≡ (a % m) * b + (a / m * b) * m = ap (λ x. x * b) (sym (mod-add-div' a m)) ∙ add-mul (a % m) (a / m * m) b ∙ ap (λ x. (a % m) * b + x) (mul_assoc (a / m) m b ∙ ap (λ x. a / m * x) (mul_comm m b) ∙ sym (mul_assoc (a / m) b m)) in
    sym (ap (λ x. x % m) split ∙ add-mul-mod_self_right ((a % m) * b) (a / m * b) m)

pub mul_mod_mod : (a b m : ℕ) → a * (b % m) % m ≡ a * b % m
mul_mod_mod a b m = ap (λ x. x % m) (mul_comm a (b % m)) ∙ mod_mul_mod b a m ∙ ap (λ x. x % m) (mul_comm b a)

module _ (m : ℕ) (some : 0 < m) where
  pub sum_commutes : (a b : ℕ) → (a + b) % m ≡ (b + a) % m
  sum_commutes a b = ap (λ x. x % m) (add_comm a b)

  pub sum_associates : (a b c : ℕ) → ((a + b) % m + c) % m ≡ (a + (b + c) % m) % m
  sum_associates a b c = mod-add-mod (a + b) m c ∙ ap (λ x. x % m) (add_assoc a b c) ∙ sym (add-mod-mod a (b + c) m)

  pub sum_zero : (a : ℕ) → a < m → (a + 0) % m ≡ a
  sum_zero a h = ap (λ x. x % m) (add-zero a) ∙ mod-eq_of_lt h

  pub sum_negative : (a : ℕ) → a < m → (a + (m - a) % m) % m ≡ 0
  sum_negative a h =
      let whole : a + (m - a) ≡ m = omega arith in
      add-mod-mod a (m - a) m ∙ ap (λ x. x % m) whole ∙ mod_self m

  pub product_commutes : (a b : ℕ) → a * b % m ≡ b * a % m
  product_commutes a b = ap (λ x. x % m) (mul_comm a b)

  pub product_associates : (a b c : ℕ) → (a * b % m) * c % m ≡ a * (b * c % m) % m
  product_associates a b c = mod_mul_mod (a * b) c m ∙ ap (λ x. x % m) (mul_assoc a b c) ∙ sym (mul_mod_mod a (b * c) m)

  pub product_one : (a : ℕ) → a < m → 1 * a % m ≡ a
  product_one a h = ap (λ x. x % m) (one-mul a) ∙ mod-eq_of_lt h

  pub product_distributes : (a b c : ℕ) → a * ((b + c) % m) % m ≡ (a * b % m + a * c % m) % m
  product_distributes a b c = mul_mod_mod a (b + c) m ∙ ap (λ x. x % m) (mul-add a b c) ∙ sym (mod-add-mod (a * b) m (a * c % m) ∙ add-mod-mod (a * b) (a * c) m)
