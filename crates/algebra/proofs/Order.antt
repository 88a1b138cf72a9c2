-- Orders of vanishing: of sums and products, of a cancelled factor and of a quotient.
use mathlib.Core.Path.{◌≡◌, sym, ◌∙◌, ap, ap₂, subst}
use Prim.Native.Nat.{ℕ, zero, suc, ◌≤◌}
use Prim.Native.Nat
use native.Mathlib.Omega.{arith}
use Rattle.algebra.specs.Ring.{CommRing, Field, no_zero_divisors, sub_nonzero}
use Rattle.algebra.specs.Series.{Series, constant, x_minus, plus_x, series}
use Rattle.algebra.proofs.Coefficients.{mul_at_one}
use Rattle.algebra.proofs.Linear.{plus_x_at_zero}
use Rattle.algebra.specs.Degree.{Below, Divisible}
use Rattle.algebra.specs.Evaluation.{eval, taylor, quotient, derivative}
use Rattle.algebra.specs.Order.{Order}
use Rattle.algebra.proofs.Divisibility.{divisible_add, divisible_neg, divisible_mul, divisible_multiple, divisible_of_X_mul, divisible_cancel}
use Rattle.algebra.proofs.Taylor.{
  taylor_at_zero,
  taylor_add,
  taylor_neg,
  taylor_mul,
  taylor_multiple,
  taylor_bound,
  taylor_x_minus_mul,
  taylor_x_minus_self_mul,
}
use Rattle.algebra.proofs.Quotient.{below_quotient, factor}

module _ {K : Type 0} (R : CommRing K) where
  open R use {zero as 𝟘, one as 𝟙, add as ◌+◌, mul as ◌*◌, neg as -◌}
  open series R use {zero as 𝟎, one as 𝟏, add as ◌⊕◌, mul as ◌⊗◌, neg as ⊖◌}

  infixl 65 ◌+◌
  infixl 70 ◌*◌
  infix 75 -◌
  infixl 65 ◌⊕◌
  infixl 70 ◌⊗◌
  infix 75 ⊖◌
  -- any bound of the degree gives the same order
  pub order_bound : (a : K) (m d e : ℕ) (f : Series K)
      → Below R d f
      → d ≤ e
      → Order R a m d f
      → Order R a m e f
  order_bound a m d e f b h o = subst (Divisible R m) (sym (taylor_bound R d e f a b h)) o

  pub order_bound_down : (a : K) (m d e : ℕ) (f : Series K)
      → Below R d f
      → d ≤ e
      → Order R a m e f
      → Order R a m d f
  order_bound_down a m d e f b h o = subst (Divisible R m) (taylor_bound R d e f a b h) o

  pub order_add : (a : K) (m d : ℕ) (f g : Series K)
      → Order R a m d f
      → Order R a m d g
      → Order R a m d (f ⊕ g)
  order_add a m d f g o p = subst (Divisible R m) (sym (taylor_add R d f g a)) (divisible_add R o p)

  pub order_neg : (a : K) (m d : ℕ) (f : Series K) → Order R a m d f → Order R a m d (⊖ f)
  order_neg a m d f o = subst (Divisible R m) (sym (taylor_neg R d f a)) (divisible_neg R o)

  pub order_multiple : (a : K) (m d : ℕ) (c : K) (f : Series K)
      → Order R a m d f
      → Order R a m d (constant R c ⊗ f)
  order_multiple a m d c f o =
      subst (Divisible R m) (sym (taylor_multiple R d c f a)) (divisible_multiple R (constant R c) o)

  -- orders add under products
  pub order_mul : (a : K) (m n c d e : ℕ) (f g : Series K)
      → Nat.◌+◌ d e ≤ suc c
      → Below R d f
      → Below R e g
      → Order R a m d f
      → Order R a n e g
      → Order R a (Nat.◌+◌ m n) c (f ⊗ g)
  order_mul a m n c d e f g h b b' o p =
      subst (Divisible R (Nat.◌+◌ m n)) (sym (taylor_mul R c d e f g a h b b')) (divisible_mul R o p)

  -- order m + 1 at a takes out a factor x − a, and leaves order m
  pub order_divide : (a : K) (m d : ℕ) (f : Series K)
      → Below R (suc d) f
      → Order R a (suc m) (suc d) f
      → (g : Series K) × (f ≡ x_minus R a ⊗ g) × Below R d g × Order R a m d g
  order_divide a m d f b o =
      let g : Series K = quotient R (suc d) f a in
      let c : Below R d g = below_quotient R d f a in
      let e : f ≡ x_minus R a ⊗ g
      = factor R (suc d) f a b (sym (taylor_at_zero R (suc d) f a) ∙ o 0 (omega arith)) in (
        g,
        e,
        c,
        divisible_of_X_mul
            R
            (taylor R d g a)
            (subst
            (Divisible R (suc m))
            (ap (λ k. taylor R (suc d) k a) e ∙ taylor_x_minus_self_mul R d g a c)
            o),
      )

  -- the derivative of a product at a point
  pub derivative_mul : (c d e : ℕ) (f g : Series K) (a : K)
      → Nat.◌+◌ d e ≤ suc c
      → Below R d f
      → Below R e g
      → derivative R c (f ⊗ g) a ≡ eval R d f a * derivative R e g a + derivative R d f a * eval R e g a
  derivative_mul c d e f g a h b b' = ap (λ k. k 1) (taylor_mul R c d e f g a h b b')
      ∙ mul_at_one R (taylor R d f a) (taylor R e g a)
      ∙ ap₂
      (λ x y. x * derivative R e g a + derivative R d f a * y)
      (taylor_at_zero R d f a)
      (taylor_at_zero R e g a)

module _ {K : Type 0} (F : Field K) where
  abbrev R : CommRing K
  R = F.ring

  open R use {zero as 𝟘, one as 𝟙, add as ◌+◌, mul as ◌*◌, neg as -◌}
  open series R use {zero as 𝟎, one as 𝟏, add as ◌⊕◌, mul as ◌⊗◌, neg as ⊖◌}

  infixl 65 ◌+◌
  infixl 70 ◌*◌
  infix 75 -◌
  infixl 65 ◌⊕◌
  infixl 70 ◌⊗◌
  infix 75 ⊖◌
  -- a factor x − b with b ≠ a does not count for the order at a
  pub order_cancel : (a b : K) (m d : ℕ) (f : Series K)
      → (a ≡ b → ⊥)
      → Below R d f
      → Order R a m (suc d) (x_minus R b ⊗ f)
      → Order R a m d f
  order_cancel a b m d f h c o =
      divisible_cancel
      R
      m
      (plus_x R (a + - b))
      (taylor R d f a)
      regular
      (subst (Divisible R m) (taylor_x_minus_mul R d b f a c) o)
    where
      regular : (x : K) → plus_x R (a + - b) 0 * x ≡ 𝟘 → x ≡ 𝟘
      regular x e =
          no_zero_divisors
          F
          (a + - b)
          x
          (sub_nonzero F a b h)
          (ap (λ y. y * x) (sym (plus_x_at_zero R (a + - b))) ∙ e)
