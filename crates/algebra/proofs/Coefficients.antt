-- The coefficients of sums, products and constants in the ring of power series.
use mathlib.Core.Path.{◌≡◌, refl, sym, ◌∙◌, ap, ap₂, fun_ext}
use mathlib.Core.Logic.{◌⊎◌, inl, inr}
use Prim.Native.Nat.{ℕ, zero, suc}
use Prim.Native.Nat
use native.Mathlib.Omega.{arith}
use Rattle.algebra.specs.Ring.{CommRing, mul_zero, zero_mul, neg_zero}
use Rattle.algebra.specs.Series.{Series, tail, constant, shift, series}

module _ {K : Type 0} (R : CommRing K) where
  open R use {zero as 𝟘, one as 𝟙, add as ◌+◌, mul as ◌*◌, neg as -◌}
  open series R use {zero as 𝟎, one as 𝟏, add as ◌⊕◌, mul as ◌⊗◌, neg as ⊖◌}

  infixl 65 ◌+◌
  infixl 70 ◌*◌
  infix 75 -◌
  infixl 65 ◌⊕◌
  infixl 70 ◌⊗◌
  infix 75 ⊖◌
  pub zero_at : (n : ℕ) → 𝟎 n ≡ 𝟘
  unfolding series
  zero_at n = refl

  pub one_constant : 𝟏 ≡ constant R 𝟙
  unfolding series
  one_constant = refl

  pub add_at : (f g : Series K) (n : ℕ) → (f ⊕ g) n ≡ f n + g n
  unfolding series
  add_at f g n = refl

  pub neg_at : (f : Series K) (n : ℕ) → (⊖ f) n ≡ - f n
  unfolding series
  neg_at f n = refl

  pub mul_at_zero : (f g : Series K) → (f ⊗ g) 0 ≡ f 0 * g 0
  unfolding series
  mul_at_zero f g = refl

  pub mul_at_suc : (f g : Series K) (n : ℕ) → (f ⊗ g) (suc n) ≡ f 0 * g (suc n) + (tail f ⊗ g) n
  unfolding series
  mul_at_suc f g n = refl

  pub constant_at_zero : (a : K) → constant R a 0 ≡ a
  unfolding constant
  constant_at_zero a = refl

  pub constant_at_suc : (a : K) (n : ℕ) → constant R a (suc n) ≡ 𝟘
  unfolding constant
  constant_at_suc a n = refl

  pub shift_at_zero : (f : Series K) → shift R f 0 ≡ 𝟘
  unfolding shift
  shift_at_zero f = refl

  pub shift_at_suc : (f : Series K) (n : ℕ) → shift R f (suc n) ≡ f n
  unfolding shift
  shift_at_suc f n = refl

  -- products that agree term by term have the same coefficient
  pub mul_at_cong : (f g h k : Series K) (n : ℕ)
      → ((i j : ℕ) → Nat.◌+◌ i j ≡ n → f i * g j ≡ h i * k j)
      → (f ⊗ g) n ≡ (h ⊗ k) n
  unfolding series
  mul_at_cong f g h k zero e = e 0 0 refl
  mul_at_cong f g h k (suc n) e =
      ap₂
      ◌+◌
      (e 0 (suc n) (omega arith))
      (mul_at_cong (tail f) g (tail h) k n (λ i j p. e (suc i) j (omega arith)))

  pub zero_mul_at : (f : Series K) (n : ℕ) → (𝟎 ⊗ f) n ≡ 𝟘
  zero_mul_at f n = ap (λ g. g n) (zero_mul (series R) f) ∙ zero_at n

  -- if one of f i and g j is zero whenever i + j ≡ n, the coefficient of the product at n is zero
  pub mul_at_zero_of : (f g : Series K) (n : ℕ)
      → ((i j : ℕ) → Nat.◌+◌ i j ≡ n → (f i ≡ 𝟘) ⊎ (g j ≡ 𝟘))
      → (f ⊗ g) n ≡ 𝟘
  mul_at_zero_of f g n h = mul_at_cong f g 𝟎 g n (λ i j p. one_is_zero i j (h i j p)) ∙ zero_mul_at g n
    where
      one_is_zero : (i j : ℕ) → (f i ≡ 𝟘) ⊎ (g j ≡ 𝟘) → f i * g j ≡ 𝟎 i * g j
      one_is_zero i j (inl e) = ap (λ x. x * g j) (e ∙ sym (zero_at i))
      one_is_zero i j (inr e) =
          ap (λ x. f i * x) e
          ∙ mul_zero R (f i)
          ∙ sym (zero_mul R (g j))
          ∙ ap (λ x. x * g j) (sym (zero_at i))

  pub constant_mul_at : (a : K) (f : Series K) (n : ℕ) → (constant R a ⊗ f) n ≡ a * f n
  unfolding series
  constant_mul_at a f zero = refl
  constant_mul_at a f (suc n) = ap (λ x. a * f (suc n) + x) (zero_mul_at f n) ∙ R.add_zero _

  pub constant_zero : constant R 𝟘 ≡ 𝟎
  unfolding series constant
  constant_zero = fun_ext (elim [ zero ↦ refl | suc n ↦ refl ])

  pub constant_add : (a b : K) → constant R (a + b) ≡ constant R a ⊕ constant R b
  unfolding series constant
  constant_add a b = fun_ext (elim [ zero ↦ refl | suc n ↦ sym (R.add_zero 𝟘) ])

  pub constant_neg : (a : K) → constant R (- a) ≡ ⊖ constant R a
  unfolding series constant
  constant_neg a = fun_ext (elim [ zero ↦ refl | suc n ↦ sym (neg_zero R) ])

  pub constant_mul : (a b : K) → constant R (a * b) ≡ constant R a ⊗ constant R b
  unfolding constant
  constant_mul a b = fun_ext (λ n. at_each n ∙ sym (constant_mul_at a (constant R b) n))
    where
      at_each : (n : ℕ) → constant R (a * b) n ≡ a * constant R b n
      at_each zero = refl
      at_each (suc n) = sym (mul_zero R a)

  -- tails of a sum and of zero
  pub tail_add : (f g : Series K) → tail (f ⊕ g) ≡ tail f ⊕ tail g
  unfolding series
  tail_add f g = refl

  pub tail_zero : tail 𝟎 ≡ 𝟎
  unfolding series
  tail_zero = refl

  pub mul_at_one : (f g : Series K) → (f ⊗ g) 1 ≡ f 0 * g 1 + f 1 * g 0
  mul_at_one f g = mul_at_suc f g 0 ∙ ap (λ x. f 0 * g 1 + x) (mul_at_zero (tail f) g)
