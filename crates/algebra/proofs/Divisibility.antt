-- Powers of x that divide sums and products of power series.
use mathlib.Core.Path.{◌≡◌, sym, ◌∙◌, ap, ap₂}
use mathlib.Core.Logic.{◌⊎◌, inl, inr}
use Prim.Native.Nat.{ℕ, zero, suc, ◌≤◌}
use Prim.Native.Nat
use native.Mathlib.Omega.{arith}
use native.Mathlib.Decide.{dec_le, ℕ_discrete}
use Rattle.algebra.specs.Ring.{CommRing, mul_zero, neg_zero}
use Rattle.algebra.specs.Solver.{ring2, :0, ◌:+◌, ◌:*◌, ◌:≡◌}
use Rattle.algebra.specs.Series.{Series, tail, constant, X, series}
use Rattle.algebra.proofs.Coefficients.{zero_at, add_at, neg_at, mul_at_suc, mul_at_cong, mul_at_zero_of, constant_at_zero, constant_mul_at}
use Rattle.algebra.proofs.Linear.{XMulAtZero, XMulAtSuc}
use Rattle.algebra.specs.Degree.{Divisible}

module _ {K : Type 0} (R : CommRing K) where
  open R use {zero as 𝟘, one as 𝟙, add as ◌+◌, mul as ◌*◌, neg as -◌}
  open series R use {zero as 𝟎, one as 𝟏, add as ◌⊕◌, mul as ◌⊗◌, neg as ⊖◌}

  infixl 65 ◌+◌
  infixl 70 ◌*◌
  infix 75 -◌
  infixl 65 ◌⊕◌
  infixl 70 ◌⊗◌
  infix 75 ⊖◌
  pub divisible_weaken : {m n : ℕ} {f : Series K} → m ≤ n → Divisible R n f → Divisible R m f
  divisible_weaken h v k l = v k (omega arith)

  pub divisible_zero : (m : ℕ) → Divisible R m 𝟎
  divisible_zero m n h = zero_at R n

  pub divisible_add : {m : ℕ} {f g : Series K} → Divisible R m f → Divisible R m g → Divisible R m (f ⊕ g)
  divisible_add {m} {f} {g} v w n h = add_at R f g n ∙ ap₂ ◌+◌ (v n h) (w n h) ∙ R.add_zero 𝟘

  pub divisible_neg : {m : ℕ} {f : Series K} → Divisible R m f → Divisible R m (⊖ f)
  divisible_neg {m} {f} v n h = neg_at R f n ∙ ap -◌ (v n h) ∙ neg_zero R

  pub divisible_sub : {m : ℕ} {f g : Series K} → Divisible R m f → Divisible R m g → Divisible R m (f ⊕ ⊖ g)
  divisible_sub v w = divisible_add v (divisible_neg w)

  -- x^m · x^n divides the product
  pub divisible_mul : {m n : ℕ} {f g : Series K}
      → Divisible R m f
      → Divisible R n g
      → Divisible R (Nat.◌+◌ m n) (f ⊗ g)
  divisible_mul {m} {n} {f} {g} v w k h = mul_at_zero_of R f g k each
    where
      pick : (i j : ℕ) → Nat.◌+◌ i j ≡ k → Dec (m ≤ i) → (f i ≡ 𝟘) ⊎ (g j ≡ 𝟘)
      pick i j p (yes q) = inr (w j (omega arith))
      pick i j p (no q) = inl (v i (omega arith))

      each : (i j : ℕ) → Nat.◌+◌ i j ≡ k → (f i ≡ 𝟘) ⊎ (g j ≡ 𝟘)
      each i j p = pick i j p (dec_le m i)

  pub divisible_multiple : {m : ℕ} {f : Series K} (g : Series K) → Divisible R m f → Divisible R m (g ⊗ f)
  divisible_multiple {m} {f} g v k h = mul_at_zero_of R g f k (λ i j p. inr (v j (omega arith)))

  pub divisible_X_mul : {m : ℕ} {f : Series K} → Divisible R m f → Divisible R (suc m) (X R ⊗ f)
  divisible_X_mul {m} {f} v zero h = XMulAtZero R f
  divisible_X_mul {m} {f} v (suc n) h = XMulAtSuc R f n ∙ v n (omega arith)

  pub divisible_of_X_mul : {m : ℕ} (f : Series K) → Divisible R (suc m) (X R ⊗ f) → Divisible R m f
  divisible_of_X_mul f v n h = sym (XMulAtSuc R f n) ∙ v (suc n) (omega arith)

  -- the first coefficient of a product whose second factor starts at m
  pub mul_at_start : {m : ℕ} (f g : Series K) → Divisible R m g → (f ⊗ g) m ≡ f 0 * g m
  mul_at_start {m} f g v = mul_at_cong R f g (constant R (f 0)) g m each ∙ constant_mul_at R (f 0) g m
    where
      each : (i j : ℕ) → Nat.◌+◌ i j ≡ m → f i * g j ≡ constant R (f 0) i * g j
      each zero j p = ap (λ x. x * g j) (sym (constant_at_zero R (f 0)))
      each (suc i) j p =
          let e : g j ≡ 𝟘 = v j (omega arith) in
          ap (λ x. f (suc i) * x) e
          ∙ mul_zero R (f (suc i))
          ∙ sym (mul_zero R (constant R (f 0) (suc i)))
          ∙ ap (λ x. constant R (f 0) (suc i) * x) (sym e)

  -- the first coefficient of a product is the product of the first coefficients
  pub mul_at_starts : (m n : ℕ) (f g : Series K)
      → Divisible R m f
      → Divisible R n g
      → (f ⊗ g) (Nat.◌+◌ m n) ≡ f m * g n
  mul_at_starts zero n f g v w = ap (f ⊗ g) (omega arith) ∙ mul_at_start f g w
  mul_at_starts (suc m) n f g v w =
      let e : Nat.◌+◌ (suc m) n ≡ suc (Nat.◌+◌ m n) = omega arith in
      ap (f ⊗ g) e
      ∙ mul_at_suc R f g (Nat.◌+◌ m n)
      ∙ ap₂
      (λ x y. x * g (suc (Nat.◌+◌ m n)) + y)
      (v 0 (omega arith))
      (mul_at_starts m n (tail f) g (λ k h. v (suc k) (omega arith)) w)
      ∙ ring2 R (λ a b. :0 :* a :+ b :≡ b) tt _ _

  -- a factor whose constant term is no zero divisor is cancelled
  pub divisible_cancel : (m : ℕ) (f g : Series K)
      → ((b : K) → f 0 * b ≡ 𝟘 → b ≡ 𝟘)
      → Divisible R m (f ⊗ g)
      → Divisible R m g
  divisible_cancel zero f g r v n h = absurd (omega arith)
  divisible_cancel (suc m) f g r v n h =
      last (divisible_cancel m f g r (λ k l. v k (omega arith))) (ℕ_discrete n m)
    where
      last : Divisible R m g → Dec (n ≡ m) → g n ≡ 𝟘
      last w (no q) = w n (omega arith)
      last w (yes q) = ap g q ∙ r (g m) (sym (mul_at_start f g w) ∙ v m (omega arith))
