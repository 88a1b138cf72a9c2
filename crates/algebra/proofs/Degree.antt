-- Degrees of sums, products and multiples.
use mathlib.Core.Path.{◌≡◌, sym, ◌∙◌, ap, ap₂, fun_ext}
use mathlib.Core.Logic.{◌⊎◌, inl, inr}
use Prim.Native.Nat.{ℕ, zero, suc, ◌≤◌}
use Prim.Native.Nat
use native.Mathlib.Omega.{arith}
use native.Mathlib.Decide.{dec_le}
use Rattle.algebra.specs.Ring.{CommRing, mul_one, mul_zero, neg_zero}
use Rattle.algebra.specs.Solver.{ring1, ring2, :0, ◌:+◌, ◌:*◌, ◌:-◌, ◌:≡◌}
use Rattle.algebra.specs.Series.{Series, tail, constant, X, x_minus, plus_x, series}
use Rattle.algebra.proofs.Coefficients.{one_constant, zero_at, add_at, neg_at, mul_at_suc, mul_at_cong, mul_at_zero_of, constant_at_zero, constant_at_suc, constant_mul_at}
use Rattle.algebra.proofs.Linear.{XMulAtZero, XMulAtSuc, x_minus_mul_at_suc}
use Rattle.algebra.specs.Degree.{Below}

module _ {K : Type 0} (R : CommRing K) where
  open R use {zero as 𝟘, one as 𝟙, add as ◌+◌, mul as ◌*◌, neg as -◌}
  open series R use {zero as 𝟎, one as 𝟏, add as ◌⊕◌, mul as ◌⊗◌, neg as ⊖◌}

  infixl 65 ◌+◌
  infixl 70 ◌*◌
  infix 75 -◌
  infixl 65 ◌⊕◌
  infixl 70 ◌⊗◌
  infix 75 ⊖◌
  pub below_weaken : {d e : ℕ} {f : Series K} → d ≤ e → Below R d f → Below R e f
  below_weaken h b n k = b n (omega arith)

  pub below_zero : (d : ℕ) → Below R d 𝟎
  below_zero d n h = zero_at R n

  -- a polynomial without a degree is zero
  pub zero_of_below : (f : Series K) → Below R 0 f → f ≡ 𝟎
  zero_of_below f b = fun_ext (λ n. b n (omega arith) ∙ sym (zero_at R n))

  pub below_add : {d : ℕ} {f g : Series K} → Below R d f → Below R d g → Below R d (f ⊕ g)
  below_add {d} {f} {g} b c n h = add_at R f g n ∙ ap₂ ◌+◌ (b n h) (c n h) ∙ R.add_zero 𝟘

  pub below_neg : {d : ℕ} {f : Series K} → Below R d f → Below R d (⊖ f)
  below_neg {d} {f} b n h = neg_at R f n ∙ ap -◌ (b n h) ∙ neg_zero R

  pub below_sub : {d : ℕ} {f g : Series K} → Below R d f → Below R d g → Below R d (f ⊕ ⊖ g)
  below_sub b c = below_add b (below_neg c)

  pub below_constant : (a : K) → Below R 1 (constant R a)
  below_constant a zero h = absurd (omega arith)
  below_constant a (suc n) h = constant_at_suc R a n

  pub below_multiple : {d : ℕ} {f : Series K} (a : K) → Below R d f → Below R d (constant R a ⊗ f)
  below_multiple {d} {f} a b n h = constant_mul_at R a f n ∙ ap (λ x. a * x) (b n h) ∙ mul_zero R a

  -- degrees add under products
  pub below_mul : {c d e : ℕ} {f g : Series K}
      → Nat.◌+◌ d e ≤ suc c
      → Below R d f
      → Below R e g
      → Below R c (f ⊗ g)
  below_mul {c} {d} {e} {f} {g} h b b' n k = mul_at_zero_of R f g n each
    where
      pick : (i j : ℕ) → Nat.◌+◌ i j ≡ n → Dec (d ≤ i) → (f i ≡ 𝟘) ⊎ (g j ≡ 𝟘)
      pick i j p (yes q) = inl (b i q)
      pick i j p (no q) = inr (b' j (omega arith))

      each : (i j : ℕ) → Nat.◌+◌ i j ≡ n → (f i ≡ 𝟘) ⊎ (g j ≡ 𝟘)
      each i j p = pick i j p (dec_le d i)

  pub below_X_mul : {d : ℕ} {f : Series K} → Below R d f → Below R (suc d) (X R ⊗ f)
  below_X_mul {d} {f} b zero h = XMulAtZero R f
  below_X_mul {d} {f} b (suc n) h = XMulAtSuc R f n ∙ b n (omega arith)

  pub below_x_minus_mul : {d : ℕ} {f : Series K} (a : K) → Below R d f → Below R (suc d) (x_minus R a ⊗ f)
  below_x_minus_mul {d} {f} a b zero h = absurd (omega arith)
  below_x_minus_mul {d} {f} a b (suc n) h =
      x_minus_mul_at_suc R a f n
      ∙ ap₂ (λ x y. x + - (a * y)) (b n (omega arith)) (b (suc n) (omega arith))
      ∙ ring1 R (λ a. :0 :- a :* :0 :≡ :0) tt a

  pub below_one : Below R 1 𝟏
  below_one n h = ap (λ f. f n) (one_constant R) ∙ below_constant 𝟙 n h

  pub below_X : Below R 2 (X R)
  below_X n h = sym (ap (λ f. f n) (mul_one (series R) (X R))) ∙ below_X_mul below_one n h

  pub below_plus_x : (a : K) → Below R 2 (plus_x R a)
  below_plus_x a = below_add (below_weaken (omega arith) (below_constant a)) below_X

  pub below_x_minus : (a : K) → Below R 2 (x_minus R a)
  below_x_minus a = below_sub below_X (below_weaken (omega arith) (below_constant a))

  pub below_tail : {d : ℕ} {f : Series K} → Below R (suc d) f → Below R d (tail f)
  below_tail b n h = b (suc n) (omega arith)

  -- the leading coefficient of a product is the product of the leading coefficients
  pub mul_at_degrees : (d e : ℕ) (f g : Series K)
      → Below R (suc d) f
      → Below R (suc e) g
      → (f ⊗ g) (Nat.◌+◌ d e) ≡ f d * g e
  mul_at_degrees zero e f g b c =
      let p : Nat.◌+◌ 0 e ≡ e = omega arith in
      ap (f ⊗ g) p ∙ mul_at_cong R f g (constant R (f 0)) g e (λ i j _. ap (λ x. x * g j) (same i)) ∙ constant_mul_at R (f 0) g e
    where
      same : (i : ℕ) → f i ≡ constant R (f 0) i
      same zero = sym (constant_at_zero R (f 0))
      same (suc i) = b (suc i) (omega arith) ∙ sym (constant_at_suc R (f 0) i)
  mul_at_degrees (suc d) e f g b c =
      let p : Nat.◌+◌ (suc d) e ≡ suc (Nat.◌+◌ d e) = omega arith in
      ap (f ⊗ g) p
      ∙ mul_at_suc R f g (Nat.◌+◌ d e)
      ∙ ap₂
      (λ x y. f 0 * x + y)
      (c (suc (Nat.◌+◌ d e)) (omega arith))
      (mul_at_degrees d e (tail f) g (below_tail b) c)
      ∙ ring2 R (λ a b. a :* :0 :+ b :≡ b) tt _ _
