-- The Taylor expansion is a polynomial of the same bound, takes the value at a + h at h, and is zero only for zero.
use mathlib.Core.Path.{◌≡◌, refl, sym, ◌∙◌, ap, ap₂}
use Prim.Native.Nat.{ℕ, zero, suc, ◌≤◌}
use native.Mathlib.Omega.{arith}
use native.Mathlib.Decide.{ℕ_discrete}
use Rattle.algebra.specs.Ring.{CommRing, zero_add, mul_zero}
use Rattle.algebra.specs.Solver.{ring2, :0, ◌:+◌, ◌:*◌, ◌:≡◌}
use Rattle.algebra.specs.Series.{Series, tail, constant, plus_x, series}
use Rattle.algebra.specs.Degree.{Below}
use Rattle.algebra.specs.Evaluation.{eval, taylor}
use Rattle.algebra.proofs.Degree.{below_zero, below_tail, below_mul, below_add, below_weaken, below_constant, below_plus_x}
use Rattle.algebra.proofs.Evaluation.{eval_add, eval_mul, eval_constant, eval_plus_x}
use Rattle.algebra.proofs.Taylor.{taylor_suc_at_zero, taylor_suc_at_suc}

module _ {K : Type 0} (R : CommRing K) where
  open R use {zero as 𝟘, one as 𝟙, add as ◌+◌, mul as ◌*◌, neg as -◌}
  open series R use {zero as 𝟎, one as 𝟏, add as ◌⊕◌, mul as ◌⊗◌, neg as ⊖◌}

  infixl 65 ◌+◌
  infixl 70 ◌*◌
  infix 75 -◌
  infixl 65 ◌⊕◌
  infixl 70 ◌⊗◌
  infix 75 ⊖◌
  pub below_taylor : (d : ℕ) (f : Series K) (a : K) → Below R d (taylor R d f a)
  below_taylor zero f a = below_zero R 0
  below_taylor (suc d) f a =
      below_add
      R
      (below_weaken R (omega arith) (below_constant R (f 0)))
      (below_mul R (omega arith) (below_plus_x R a) (below_taylor d (tail f) a))

  -- the value of the expansion at h is the value at a + h
  pub eval_taylor : (d : ℕ) (f : Series K) (a h : K) → eval R d (taylor R d f a) h ≡ eval R d f (a + h)
  eval_taylor zero f a h = refl
  eval_taylor (suc d) f a h =
      let T : Series K = taylor R d (tail f) a in
      eval_add R (suc d) (constant R (f 0)) (plus_x R a ⊗ T) h
      ∙ ap₂
      ◌+◌
      (eval_constant R d (f 0) h)
      (eval_mul R (suc d) 2 d (plus_x R a) T h (omega arith) (below_plus_x R a) (below_taylor d (tail f) a)
      ∙ ap₂ ◌*◌ (eval_plus_x R 0 a h) (eval_taylor d (tail f) a h))

  -- a polynomial in which each coefficient is zero if the next one is, is zero
  descent : (d : ℕ) (f : Series K) → Below R d f → ((n : ℕ) → f (suc n) ≡ 𝟘 → f n ≡ 𝟘) → (n : ℕ) → f n ≡ 𝟘
  descent zero f b s n = b n (omega arith)
  descent (suc d) f b s n = descent d f lower s n
    where
      pick : (k : ℕ) → d ≤ k → Dec (k ≡ d) → f k ≡ 𝟘
      pick k h (yes e) = s k (b (suc k) (omega arith))
      pick k h (no e) = b k (omega arith)

      lower : Below R d f
      lower k h = pick k h (ℕ_discrete k d)

  -- a polynomial whose expansion is zero is zero
  pub taylor_injective : (d : ℕ) (f : Series K) (a : K)
      → Below R d f
      → ((n : ℕ) → taylor R d f a n ≡ 𝟘)
      → (n : ℕ)
      → f n ≡ 𝟘
  taylor_injective zero f a b t n = b n (omega arith)
  taylor_injective (suc d) f a b t n = at n (taylor_injective d (tail f) a (below_tail R b) zeros)
    where
      T : Series K
      T = taylor R d (tail f) a

      step : (n : ℕ) → T (suc n) ≡ 𝟘 → T n ≡ 𝟘
      step n e = sym (zero_add R (T n)) ∙ ap (λ x. x + T n) (sym (ap (λ x. a * x) e ∙ mul_zero R a)) ∙ sym (taylor_suc_at_suc R d f a n) ∙ t (suc n)

      zeros : (n : ℕ) → T n ≡ 𝟘
      zeros = descent d T (below_taylor d (tail f) a) step

      at : (n : ℕ) → ((k : ℕ) → f (suc k) ≡ 𝟘) → f n ≡ 𝟘
      at zero h = sym (ap (λ x. f 0 + a * x) (zeros 0) ∙ ring2 R (λ f a. f :+ a :* :0 :≡ f) tt (f 0) a) ∙ sym (taylor_suc_at_zero R d f a) ∙ t 0
      at (suc n) h = h n
