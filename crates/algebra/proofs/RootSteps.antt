-- The step of the root search: f = γ + x·g is a root of Q exactly if g is one of Q(x, γ + x·y), and what the step keeps.
use mathlib.Core.Path.{◌≡◌, sym, ◌∙◌, ap, ap₂, subst, fun_ext}
use mathlib.Core.Logic.{◌↔◌}
use Prim.Native.Nat.{ℕ, zero, suc, ◌≤◌, ◌<◌}
use Prim.Native.Nat
use native.Mathlib.Omega.{arith}
use native.Mathlib.Decide.{dec_le}
use native.Mathlib.Nat.{mul-le-mul_left}
use Rattle.algebra.specs.Ring.{CommRing, mul_zero}
use Rattle.algebra.specs.Solver.{ring1, :0, ◌:+◌, ◌:*◌, ◌:≡◌}
use Rattle.algebra.specs.Series.{Series, tail, constant, X, series}
use Rattle.algebra.proofs.Coefficients.{zero_at, add_at, constant_mul_at}
use Rattle.algebra.proofs.Linear.{head_tail}
use Rattle.algebra.specs.Degree.{Below}
use Rattle.algebra.specs.Evaluation.{taylor}
use Rattle.algebra.specs.Sum.{power}
use Rattle.algebra.specs.Bivariate.{Bivariate, Weighted, substitute}
use Rattle.algebra.specs.RootSearch.{Nonzero, Root, Candidate, next, at_constant}
use Rattle.algebra.proofs.Homomorphism.{at_zero_homomorphism}
use Rattle.algebra.proofs.Evaluation.{eval_image}
use Rattle.algebra.proofs.Taylor.{taylor_suc_at_zero, taylor_suc_at_suc}
use Rattle.algebra.proofs.Expansion.{below_taylor, taylor_injective}
use Rattle.algebra.proofs.Divisibility.{divisible_mul}
use Rattle.algebra.proofs.Powers.{divisible_X_power}
use Rattle.algebra.proofs.Sum.{XPowerMulAt}
use Rattle.algebra.proofs.Bivariate.{substitute_step}

module _ {K : Type 0} (R : CommRing K) where
  open R use {zero as 𝟘, one as 𝟙, add as ◌+◌, mul as ◌*◌, neg as -◌}
  open series R use {zero as 𝟎, one as 𝟏, add as ◌⊕◌, mul as ◌⊗◌, neg as ⊖◌}

  infixl 65 ◌+◌
  infixl 70 ◌*◌
  infix 75 -◌
  infixl 65 ◌⊕◌
  infixl 70 ◌⊗◌
  infix 75 ⊖◌
  -- the constant term of a root is a candidate
  pub root_candidate : (l : ℕ) (Q : Bivariate K) (f : Series K) → Root R l Q f → Candidate R l Q (f 0)
  root_candidate l Q f e =
      sym (eval_image (series R) R (λ g. g 0) (at_zero_homomorphism R) l Q f) ∙ ap (λ g. g 0) e ∙ zero_at R 0

  -- γ + x·g is a root of Q exactly if g is a root of Q(x, γ + x·y)
  pub root_step : (l : ℕ) (Q : Bivariate K) (γ : K) (g : Series K)
      → Root R l Q (constant R γ ⊕ X R ⊗ g) ↔ Root R l (next R l Q γ) g
  root_step l Q γ g = (λ e. sym (substitute_step R l Q γ g) ∙ e, λ e. substitute_step R l Q γ g ∙ e)

  -- f is a root of Q exactly if its tail is a root of Q(x, f(0) + x·y)
  pub root_tail : (l : ℕ) (Q : Bivariate K) (f : Series K)
      → Root R l Q f ↔ Root R l (next R l Q (f 0)) (tail f)
  root_tail l Q f = (
    λ e. (root_step l Q (f 0) (tail f)).0 (subst (Root R l Q) (head_tail R f) e),
    λ e. subst (Root R l Q) (sym (head_tail R f)) ((root_step l Q (f 0) (tail f)).1 e),
  )

  -- a Taylor coefficient of y^c is zero at x^i where all coefficients of Q from y^c on are
  taylor_vanish : (l : ℕ) (Q : Bivariate K) (γ : K) (c i : ℕ)
      → ((n : ℕ) → c ≤ n → Q n i ≡ 𝟘)
      → taylor (series R) l Q (constant R γ) c i ≡ 𝟘
  taylor_vanish zero Q γ c i v = ap (λ f. f i) (zero_at (series R) c) ∙ zero_at R i
  taylor_vanish (suc l) Q γ zero i v =
      let T : Bivariate K = taylor (series R) l (tail Q) (constant R γ) in
      ap (λ f. f i) (taylor_suc_at_zero (series R) l Q (constant R γ))
      ∙ add_at R (Q 0) (constant R γ ⊗ T 0) i
      ∙ ap₂
      ◌+◌
      (v 0 (omega arith))
      (constant_mul_at R γ (T 0) i ∙ ap (λ x. γ * x) (taylor_vanish l (tail Q) γ 0 i (λ n h. v (suc n) (omega arith))))
      ∙ ring1 R (λ a. :0 :+ a :* :0 :≡ :0) tt γ
  taylor_vanish (suc l) Q γ (suc c) i v =
      let T : Bivariate K = taylor (series R) l (tail Q) (constant R γ) in
      ap (λ f. f i) (taylor_suc_at_suc (series R) l Q (constant R γ) c)
      ∙ add_at R (constant R γ ⊗ T (suc c)) (T c) i
      ∙ ap₂
      ◌+◌
      (constant_mul_at R γ (T (suc c)) i ∙ ap (λ x. γ * x) (taylor_vanish l (tail Q) γ (suc c) i (λ n h. v (suc n) (omega arith))))
      (taylor_vanish l (tail Q) γ c i (λ n h. v (suc n) (omega arith)))
      ∙ ring1 R (λ a. a :* :0 :+ :0 :≡ :0) tt γ

  -- the coefficient of x^(c + i) y^c of Q(x, γ + x·y)
  pub next_at : (l : ℕ) (Q : Bivariate K) (γ : K) (c i : ℕ)
      → next R l Q γ c (Nat.◌+◌ c i) ≡ taylor (series R) l Q (constant R γ) c i
  next_at l Q γ c i = XPowerMulAt R c (taylor (series R) l Q (constant R γ) c) i

  -- the coefficient of y^c of Q(x, γ + x·y) is divisible by x^c
  pub next_start : (l : ℕ) (Q : Bivariate K) (γ : K) (c i : ℕ) → i < c → next R l Q γ c i ≡ 𝟘
  next_start l Q γ c i h =
      divisible_mul R {m = c} {n = 0} (divisible_X_power R c) (λ n k. absurd (omega arith)) i (omega arith)

  -- where y weighed s + 1 it weighs s
  pub weighted_next : (l s D : ℕ) (Q : Bivariate K) (γ : K) → Weighted R (suc s) D Q → Weighted R s D (next R l Q γ)
  weighted_next l s D Q γ w c i h = go (dec_le c i)
    where
      reach : (n : ℕ) → c ≤ n → D ≤ Nat.◌+◌ (Nat.◌-◌ i c) (Nat.◌*◌ (suc s) n)
      reach n t = let m : Nat.◌*◌ s c ≤ Nat.◌*◌ s n = mul-le-mul_left s t in omega arith

      go : Dec (c ≤ i) → next R l Q γ c i ≡ 𝟘
      go (no k) = next_start l Q γ c i (omega arith)
      go (yes k) =
          let j : ℕ = Nat.◌-◌ i c in
          let e : i ≡ Nat.◌+◌ c j = omega arith in
          ap (next R l Q γ c) e ∙ next_at l Q γ c j ∙ taylor_vanish l Q γ c j (λ n t. w n j (reach n t))

  pub below_next : (l : ℕ) (Q : Bivariate K) (γ : K) → Below (series R) l (next R l Q γ)
  below_next l Q γ c h =
      ap (λ f. power (series R) (X R) c ⊗ f) (below_taylor (series R) l Q (constant R γ) c h) ∙ mul_zero (series R) _

  -- the step leaves a polynomial other than zero other than zero
  pub nonzero_next : (l : ℕ) (Q : Bivariate K) (γ : K)
      → Below (series R) l Q
      → Nonzero R Q
      → Nonzero R (next R l Q γ)
  nonzero_next l Q γ b z e =
      z
      (fun_ext
      (λ c.
      taylor_injective
      (series R)
      l
      Q
      (constant R γ)
      b
      (λ n.
      fun_ext
      (λ i.
      sym (next_at l Q γ n i)
      ∙ ap (λ P. P n (Nat.◌+◌ n i)) e
      ∙ ap (λ f. f (Nat.◌+◌ n i)) (zero_at (series R) n)
      ∙ zero_at R (Nat.◌+◌ n i)
      ∙ sym (zero_at R i)))
      c
      ∙ sym (zero_at (series R) c)))

  -- the coefficients of Q(x, γ)
  pub substitute_constant_at : (l : ℕ) (Q : Bivariate K) (γ : K) (i : ℕ)
      → substitute R l Q (constant R γ) i ≡ at_constant R l Q γ i
  substitute_constant_at zero Q γ i = zero_at R i
  substitute_constant_at (suc l) Q γ i =
      add_at R (Q 0) (constant R γ ⊗ substitute R l (tail Q) (constant R γ)) i
      ∙ ap
      (λ x. Q 0 i + x)
      (constant_mul_at R γ (substitute R l (tail Q) (constant R γ)) i
      ∙ ap (λ x. γ * x) (substitute_constant_at l (tail Q) γ i))

  -- γ is a root of Q exactly if all coefficients of Q(x, γ) are zero
  pub root_constant : (l : ℕ) (Q : Bivariate K) (γ : K)
      → Root R l Q (constant R γ) ↔ ((i : ℕ) → at_constant R l Q γ i ≡ 𝟘)
  root_constant l Q γ = (
    λ e i. sym (substitute_constant_at l Q γ i) ∙ ap (λ f. f i) e ∙ zero_at R i,
    λ v. fun_ext (λ i. substitute_constant_at l Q γ i ∙ v i ∙ sym (zero_at R i)),
  )
