-- The Taylor expansion f(a + x) of a polynomial keeps sums and products, and does not depend on the bound.
use mathlib.Core.Path.{◌≡◌, refl, sym, ◌∙◌, ap, ap₂, fun_ext}
use Prim.Native.Nat.{ℕ, zero, suc, ◌≤◌}
use Prim.Native.Nat
use native.Mathlib.Omega.{arith}
use Rattle.algebra.specs.Ring.{CommRing, zero_add}
use Rattle.algebra.specs.Solver.{ring3, ◌:+◌, ◌:-◌, :-◌, ◌:≡◌}
use Rattle.algebra.specs.Series.{Series, tail, constant, shift, X, x_minus, plus_x, series}
use Rattle.algebra.proofs.Coefficients.{zero_at, add_at, one_constant, constant_at_zero, constant_at_suc, constant_zero, constant_add, constant_neg}
use Rattle.algebra.proofs.Linear.{plus_x_mul_at_zero, plus_x_mul_at_suc}
use Rattle.algebra.specs.Degree.{Below}
use Rattle.algebra.specs.Evaluation.{eval, taylor}
use Rattle.algebra.specs.Homomorphism.{Homomorphism}
use Rattle.algebra.proofs.Degree.{below_zero, below_x_minus}
use Rattle.algebra.proofs.Homomorphism.{on_coefficients, constant_homomorphism, keeps_neg}
use Rattle.algebra.proofs.Evaluation.{eval_add, eval_neg, eval_multiple, eval_mul, eval_bound, eval_constant, eval_X, below_image}

module _ {K : Type 0} (R : CommRing K) where
  open R use {zero as 𝟘, one as 𝟙, add as ◌+◌, mul as ◌*◌, neg as -◌}
  open series R use {zero as 𝟎, one as 𝟏, add as ◌⊕◌, mul as ◌⊗◌, neg as ⊖◌}

  infixl 65 ◌+◌
  infixl 70 ◌*◌
  infix 75 -◌
  infixl 65 ◌⊕◌
  infixl 70 ◌⊗◌
  infix 75 ⊖◌
  -- Horner's rule for the coefficients
  pub taylor_suc_at_zero : (d : ℕ) (f : Series K) (a : K)
      → taylor R (suc d) f a 0 ≡ f 0 + a * taylor R d (tail f) a 0
  taylor_suc_at_zero d f a =
      add_at R _ _ 0 ∙ ap₂ ◌+◌ (constant_at_zero R (f 0)) (plus_x_mul_at_zero R a (taylor R d (tail f) a))

  pub taylor_suc_at_suc : (d : ℕ) (f : Series K) (a : K) (n : ℕ)
      → taylor R (suc d) f a (suc n) ≡ a * taylor R d (tail f) a (suc n) + taylor R d (tail f) a n
  taylor_suc_at_suc d f a n =
      add_at R _ _ (suc n)
      ∙ ap₂ ◌+◌ (constant_at_suc R (f 0) n) (plus_x_mul_at_suc R a (taylor R d (tail f) a) n)
      ∙ zero_add R _

  -- the constant term is the value
  pub taylor_at_zero : (d : ℕ) (f : Series K) (a : K) → taylor R d f a 0 ≡ eval R d f a
  taylor_at_zero zero f a = zero_at R 0
  taylor_at_zero (suc d) f a =
      taylor_suc_at_zero d f a ∙ ap (λ x. f 0 + a * x) (taylor_at_zero d (tail f) a)

  abbrev lifted : Series K → Series (Series K)
  lifted f n = constant R (f n)

  lifting : Homomorphism (series R) (series (series R)) lifted
  lifting = on_coefficients R (series R) (constant R) (constant_homomorphism R)

  lifted_constant : (c : K) → lifted (constant R c) ≡ constant (series R) (constant R c)
  unfolding constant
  lifted_constant c = fun_ext (elim [ zero ↦ refl | suc n ↦ constant_zero R ])

  lifted_X : lifted (X R) ≡ X (series R)
  unfolding X shift
  lifted_X = fun_ext (elim [ zero ↦ constant_zero R | suc n ↦ ap (λ f. f n) (lifted_constant 𝟙) ∙ ap (λ f. constant (series R) f n) (sym (one_constant R)) ])

  below_lifted : {d : ℕ} {f : Series K} → Below R d f → Below (series R) d (lifted f)
  below_lifted = below_image R (series R) (constant R) (constant_homomorphism R)

  pub taylor_add : (d : ℕ) (f g : Series K) (a : K) → taylor R d (f ⊕ g) a ≡ taylor R d f a ⊕ taylor R d g a
  taylor_add d f g a =
      ap (λ h. eval (series R) d h (plus_x R a)) (lifting.keeps_add f g)
      ∙ eval_add (series R) d (lifted f) (lifted g) (plus_x R a)

  pub taylor_neg : (d : ℕ) (f : Series K) (a : K) → taylor R d (⊖ f) a ≡ ⊖ taylor R d f a
  taylor_neg d f a =
      ap (λ h. eval (series R) d h (plus_x R a)) (keeps_neg (series R) (series (series R)) lifted lifting f)
      ∙ eval_neg (series R) d (lifted f) (plus_x R a)

  -- the expansion of a product is the product of the expansions
  pub taylor_mul : (c d e : ℕ) (f g : Series K) (a : K)
      → Nat.◌+◌ d e ≤ suc c
      → Below R d f
      → Below R e g
      → taylor R c (f ⊗ g) a ≡ taylor R d f a ⊗ taylor R e g a
  taylor_mul c d e f g a h b b' =
      ap (λ k. eval (series R) c k (plus_x R a)) (lifting.keeps_mul f g)
      ∙ eval_mul (series R) c d e (lifted f) (lifted g) (plus_x R a) h (below_lifted b) (below_lifted b')

  -- any bound of the degree gives the same expansion
  pub taylor_bound : (d e : ℕ) (f : Series K) (a : K) → Below R d f → d ≤ e → taylor R e f a ≡ taylor R d f a
  taylor_bound d e f a b h = eval_bound (series R) d e (lifted f) (plus_x R a) (below_lifted b) h

  pub taylor_zero : (d : ℕ) (a : K) → taylor R d 𝟎 a ≡ 𝟎
  taylor_zero d a = taylor_bound 0 d 𝟎 a (below_zero R 0) (omega arith)

  pub taylor_constant : (d : ℕ) (c a : K) → taylor R (suc d) (constant R c) a ≡ constant R c
  taylor_constant d c a =
      ap (λ h. eval (series R) (suc d) h (plus_x R a)) (lifted_constant c)
      ∙ eval_constant (series R) d (constant R c) (plus_x R a)

  pub taylor_multiple : (d : ℕ) (c : K) (f : Series K) (a : K)
      → taylor R d (constant R c ⊗ f) a ≡ constant R c ⊗ taylor R d f a
  taylor_multiple d c f a =
      ap (λ k. eval (series R) d k (plus_x R a)) (lifting.keeps_mul (constant R c) f)
      ∙ ap (λ k. eval (series R) d ((series (series R)).mul k (lifted f)) (plus_x R a)) (lifted_constant c)
      ∙ eval_multiple (series R) d (constant R c) (lifted f) (plus_x R a)

  pub taylor_X : (d : ℕ) (a : K) → taylor R (suc (suc d)) (X R) a ≡ plus_x R a
  taylor_X d a =
      ap (λ h. eval (series R) (suc (suc d)) h (plus_x R a)) lifted_X ∙ eval_X (series R) d (plus_x R a)

  -- x − b is (a − b) + x at a
  pub taylor_x_minus : (d : ℕ) (b a : K) → taylor R (suc (suc d)) (x_minus R b) a ≡ plus_x R (a + - b)
  taylor_x_minus d b a =
      taylor_add (suc (suc d)) (X R) (⊖ constant R b) a
      ∙ ap₂
      ◌⊕◌
      (taylor_X d a)
      (taylor_neg (suc (suc d)) (constant R b) a ∙ ap ⊖◌ (taylor_constant (suc d) b a))
      ∙ ring3 (series R) (λ a x b. (a :+ x) :- b :≡ (a :- b) :+ x) tt (constant R a) (X R) (constant R b)
      ∙ ap (λ c. c ⊕ X R) (sym (constant_add R a (- b) ∙ ap (λ c. constant R a ⊕ c) (constant_neg R b)))

  -- x − a is x at a
  pub taylor_x_minus_self : (d : ℕ) (a : K) → taylor R (suc (suc d)) (x_minus R a) a ≡ X R
  taylor_x_minus_self d a =
      taylor_x_minus d a a
      ∙ ap (λ c. constant R c ⊕ X R) (R.add_neg a)
      ∙ ap (λ c. c ⊕ X R) (constant_zero R)
      ∙ zero_add (series R) (X R)

  pub taylor_x_minus_mul : (d : ℕ) (b : K) (f : Series K) (a : K)
      → Below R d f
      → taylor R (suc d) (x_minus R b ⊗ f) a ≡ plus_x R (a + - b) ⊗ taylor R d f a
  taylor_x_minus_mul d b f a h =
      taylor_mul (suc d) 2 d (x_minus R b) f a (omega arith) (below_x_minus R b) h
      ∙ ap (λ g. g ⊗ taylor R d f a) (taylor_x_minus 0 b a)

  pub taylor_x_minus_self_mul : (d : ℕ) (f : Series K) (a : K)
      → Below R d f
      → taylor R (suc d) (x_minus R a ⊗ f) a ≡ X R ⊗ taylor R d f a
  taylor_x_minus_self_mul d f a h =
      taylor_mul (suc d) 2 d (x_minus R a) f a (omega arith) (below_x_minus R a) h
      ∙ ap (λ g. g ⊗ taylor R d f a) (taylor_x_minus_self 0 a)
