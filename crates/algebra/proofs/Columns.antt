-- The step of the root search column by column: each power of x by itself.
use mathlib.Core.Path.{◌≡◌, sym, ◌∙◌, ap, ap₂}
use Prim.Native.Nat.{ℕ, zero, suc, ◌≤◌}
use Prim.Native.Nat
use native.Mathlib.Omega.{arith}
use Rattle.algebra.specs.Ring.{CommRing}
use Rattle.algebra.specs.Series.{tail, constant, series}
use Rattle.algebra.proofs.Coefficients.{zero_at, add_at, constant_mul_at}
use Rattle.algebra.specs.Evaluation.{taylor}
use Rattle.algebra.specs.Bivariate.{Bivariate}
use Rattle.algebra.specs.RootSearch.{next}
use Rattle.algebra.proofs.Taylor.{taylor_suc_at_zero, taylor_suc_at_suc}
use Rattle.algebra.proofs.RootSteps.{next_at}

module _ {K : Type 0} (R : CommRing K) where
  open R use {add as ◌+◌, mul as ◌*◌}
  open series R use {mul as ◌⊗◌}

  infixl 65 ◌+◌
  infixl 70 ◌*◌
  infixl 70 ◌⊗◌
  -- the Taylor coefficients in y at the constant γ, at x^i, are those of the coefficients of x^i
  pub taylor_column : (l : ℕ) (Q : Bivariate K) (γ : K) (c i : ℕ)
      → taylor (series R) l Q (constant R γ) c i ≡ taylor R l (λ n. Q n i) γ c
  taylor_column zero Q γ c i = ap (λ f. f i) (zero_at (series R) c) ∙ zero_at R i ∙ sym (zero_at R c)
  taylor_column (suc l) Q γ zero i =
      let T : Bivariate K = taylor (series R) l (tail Q) (constant R γ) in
      ap (λ f. f i) (taylor_suc_at_zero (series R) l Q (constant R γ))
      ∙ add_at R (Q 0) (constant R γ ⊗ T 0) i
      ∙ ap (λ x. Q 0 i + x) (constant_mul_at R γ (T 0) i ∙ ap (λ x. γ * x) (taylor_column l (tail Q) γ 0 i))
      ∙ sym (taylor_suc_at_zero R l (λ n. Q n i) γ)
  taylor_column (suc l) Q γ (suc c) i =
      let T : Bivariate K = taylor (series R) l (tail Q) (constant R γ) in
      ap (λ f. f i) (taylor_suc_at_suc (series R) l Q (constant R γ) c)
      ∙ add_at R (constant R γ ⊗ T (suc c)) (T c) i
      ∙ ap₂
      ◌+◌
      (constant_mul_at R γ (T (suc c)) i ∙ ap (λ x. γ * x) (taylor_column l (tail Q) γ (suc c) i))
      (taylor_column l (tail Q) γ c i)
      ∙ sym (taylor_suc_at_suc R l (λ n. Q n i) γ c)

  -- the coefficient of x^(c + i) y^c of Q(x, γ + x·y), from the coefficients of x^i alone
  pub next_column : (l : ℕ) (Q : Bivariate K) (γ : K) (c i : ℕ)
      → next R l Q γ c (Nat.◌+◌ c i) ≡ taylor R l (λ n. Q n i) γ c
  next_column l Q γ c i = next_at R l Q γ c i ∙ taylor_column l Q γ c i

  -- the same at any place from c on
  pub next_shifted : (l : ℕ) (Q : Bivariate K) (γ : K) (c i : ℕ)
      → c ≤ i
      → next R l Q γ c i ≡ taylor R l (λ n. Q n (Nat.◌-◌ i c)) γ c
  next_shifted l Q γ c i h =
      let e : i ≡ Nat.◌+◌ c (Nat.◌-◌ i c) = omega arith in
      ap (next R l Q γ c) e ∙ next_column l Q γ c (Nat.◌-◌ i c)
