-- Division of a polynomial by x − a, and the factor theorem.
use mathlib.Core.Path.{◌≡◌, refl, sym, ◌∙◌, ap, ap₂, fun_ext}
use Prim.Native.Nat.{ℕ, zero, suc, ◌≤◌}
use native.Mathlib.Omega.{arith}
use Rattle.algebra.specs.Ring.{CommRing}
use Rattle.algebra.specs.Solver.{ring1, ring3, :0, ◌:+◌, ◌:*◌, ◌:-◌, :-◌, ◌:≡◌}
use Rattle.algebra.specs.Series.{Series, tail, constant, x_minus, series}
use Rattle.algebra.proofs.Coefficients.{add_at, constant_at_zero, constant_at_suc, constant_zero}
use Rattle.algebra.proofs.Linear.{x_minus_mul_at_zero, x_minus_mul_at_suc}
use Rattle.algebra.specs.Degree.{Below}
use Rattle.algebra.specs.Evaluation.{eval, quotient}
use Rattle.algebra.proofs.Degree.{below_tail}

module _ {K : Type 0} (R : CommRing K) where
  open R use {zero as 𝟘, one as 𝟙, add as ◌+◌, mul as ◌*◌, neg as -◌}
  open series R use {zero as 𝟎, one as 𝟏, add as ◌⊕◌, mul as ◌⊗◌, neg as ⊖◌}

  infixl 65 ◌+◌
  infixl 70 ◌*◌
  infix 75 -◌
  infixl 65 ◌⊕◌
  infixl 70 ◌⊗◌
  infix 75 ⊖◌
  quotient_zero : (d : ℕ) (f : Series K) (a : K) (n : ℕ) → d ≤ suc n → quotient R d f a n ≡ 𝟘
  quotient_zero zero f a n h = refl
  quotient_zero (suc zero) f a zero h = refl
  quotient_zero (suc (suc d)) f a zero h = absurd (omega arith)
  quotient_zero (suc d) f a (suc n) h = quotient_zero d (tail f) a n (omega arith)

  pub below_quotient : (d : ℕ) (f : Series K) (a : K) → Below R d (quotient R (suc d) f a)
  below_quotient d f a n h = quotient_zero (suc d) f a n (omega arith)

  division_at_zero : (d : ℕ) (f : Series K) (a : K) → Below R d f → - (a * quotient R d f a 0) + eval R d f a ≡ f 0
  division_at_zero zero f a b = ring1 R (λ a. :- (a :* :0) :+ :0 :≡ :0) tt a ∙ sym (b 0 (omega arith))
  division_at_zero (suc d) f a b = ring3 R (λ a e f. :- (a :* e) :+ (f :+ a :* e) :≡ f) tt _ _ _

  division_at_suc : (d : ℕ) (f : Series K) (a : K) (n : ℕ)
      → Below R d f
      → quotient R d f a n + - (a * quotient R d f a (suc n)) ≡ f (suc n)
  division_at_suc zero f a n b = ring1 R (λ a. :0 :- a :* :0 :≡ :0) tt a ∙ sym (b (suc n) (omega arith))
  division_at_suc (suc d) f a zero b = R.add_comm _ _ ∙ division_at_zero d (tail f) a (below_tail R b)
  division_at_suc (suc d) f a (suc n) b = division_at_suc d (tail f) a n (below_tail R b)

  -- f = (x − a) · quotient + f(a)
  pub division : (d : ℕ) (f : Series K) (a : K)
      → Below R d f
      → f ≡ x_minus R a ⊗ quotient R d f a ⊕ constant R (eval R d f a)
  division d f a b = fun_ext at
    where
      q : Series K
      q = quotient R d f a

      at : (n : ℕ) → f n ≡ (x_minus R a ⊗ quotient R d f a ⊕ constant R (eval R d f a)) n
      at zero =
          sym
          (add_at R (x_minus R a ⊗ q) (constant R (eval R d f a)) 0
          ∙ ap₂ ◌+◌ (x_minus_mul_at_zero R a q) (constant_at_zero R (eval R d f a))
          ∙ division_at_zero d f a b)
      at (suc n) =
          sym
          (add_at R (x_minus R a ⊗ q) (constant R (eval R d f a)) (suc n)
          ∙ ap₂ ◌+◌ (x_minus_mul_at_suc R a q n) (constant_at_suc R (eval R d f a) n)
          ∙ R.add_zero _
          ∙ division_at_suc d f a n b)

  -- x − a divides a polynomial that is zero at a
  pub factor : (d : ℕ) (f : Series K) (a : K)
      → Below R d f
      → eval R d f a ≡ 𝟘
      → f ≡ x_minus R a ⊗ quotient R d f a
  factor d f a b e =
      division d f a b
      ∙ ap (λ c. x_minus R a ⊗ quotient R d f a ⊕ c) (ap (constant R) e ∙ constant_zero R)
      ∙ (series R).add_zero _
