-- Rows and discrepancies coefficient by coefficient, as a program holds them.
use mathlib.Core.Path.{◌≡◌, sym, ◌∙◌, ap, ap₂, fun_ext}
use Prim.Native.Nat.{ℕ, zero, suc}
use native.Mathlib.Decide.{ℕ_discrete}
use Rattle.algebra.specs.Ring.{CommRing}
use Rattle.algebra.specs.Series.{tail, constant, x_minus, series}
use Rattle.algebra.proofs.Coefficients.{zero_at, one_constant, add_at, constant_mul_at}
use Rattle.algebra.proofs.Linear.{x_minus_mul_at_zero, x_minus_mul_at_suc}
use Rattle.algebra.specs.Evaluation.{taylor}
use Rattle.algebra.specs.Bivariate.{Bivariate, scale, y_power}
use Rattle.algebra.specs.Conditions.{Condition, discrepancy}
use Rattle.algebra.proofs.Taylor.{taylor_suc_at_zero, taylor_suc_at_suc}
use Rattle.algebra.proofs.KoetterStart.{y_power_self, y_power_other}

module _ {K : Type 0} (R : CommRing K) where
  open R use {zero as 𝟘, one as 𝟙, add as ◌+◌, mul as ◌*◌, neg as -◌}

  infixl 65 ◌+◌
  infixl 70 ◌*◌
  infix 75 -◌
  -- a row whose coefficients are those of (x − a)·Q is (x − a)·Q
  pub is_x_minus : (S : Bivariate K) (a : K) (Q : Bivariate K)
      → ((c : ℕ) → S c 0 ≡ - (a * Q c 0))
      → ((c i : ℕ) → S c (suc i) ≡ Q c i + - (a * Q c (suc i)))
      → S ≡ scale R (x_minus R a) Q
  is_x_minus S a Q h k =
      fun_ext
      (λ c.
      fun_ext (elim [ zero ↦ h c ∙ sym (x_minus_mul_at_zero R a (Q c)) | suc i ↦ k c i ∙ sym (x_minus_mul_at_suc R a (Q c) i) ]))

  -- a row with one at y^j and nothing else is y^j
  pub is_y_power : (S : Bivariate K) (j : ℕ)
      → ((i : ℕ) → S j i ≡ constant R 𝟙 i)
      → ((c i : ℕ) → (c ≡ j → ⊥) → S c i ≡ 𝟘)
      → S ≡ y_power R j
  is_y_power S j h k = fun_ext (λ c. go c (ℕ_discrete c j))
    where
      go : (c : ℕ) → Dec (c ≡ j) → S c ≡ y_power R j c
      go c (yes e) = ap S e ∙ fun_ext h ∙ sym (one_constant R) ∙ sym (y_power_self R j) ∙ ap (y_power R j) (sym e)
      go c (no e) = fun_ext (λ i. k c i e ∙ sym (zero_at R i)) ∙ sym (y_power_other R j c e)

  taylor_constant_at : (l : ℕ) (S : Bivariate K) (b : K) (u r : ℕ)
      → taylor (series R) l S (constant R b) u r ≡ taylor R l (λ c. S c r) b u
  taylor_constant_at zero S b u r =
      ap (λ f. f r) (zero_at (series R) u) ∙ zero_at R r ∙ sym (zero_at R u)
  taylor_constant_at (suc l) S b zero r =
      ap (λ f. f r) (taylor_suc_at_zero (series R) l S (constant R b))
      ∙ add_at R (S 0) ((series R).mul (constant R b) (taylor (series R) l (tail S) (constant R b) 0)) r
      ∙ ap
      (λ x. S 0 r + x)
      (constant_mul_at R b (taylor (series R) l (tail S) (constant R b) 0) r
      ∙ ap (λ x. b * x) (taylor_constant_at l (tail S) b 0 r))
      ∙ sym (taylor_suc_at_zero R l (λ c. S c r) b)
  taylor_constant_at (suc l) S b (suc u) r =
      ap (λ f. f r) (taylor_suc_at_suc (series R) l S (constant R b) u)
      ∙ add_at
      R
      ((series R).mul (constant R b) (taylor (series R) l (tail S) (constant R b) (suc u)))
      (taylor (series R) l (tail S) (constant R b) u)
      r
      ∙ ap₂
      ◌+◌
      (constant_mul_at R b (taylor (series R) l (tail S) (constant R b) (suc u)) r
      ∙ ap (λ x. b * x) (taylor_constant_at l (tail S) b (suc u) r))
      (taylor_constant_at l (tail S) b u r)
      ∙ sym (taylor_suc_at_suc R l (λ c. S c r) b u)

  -- a discrepancy is an expansion in y of expansions in x
  pub discrepancy_nested : (d l : ℕ) (Q : Bivariate K) (c : Condition K)
      → discrepancy R d l Q c
      ≡ taylor R l (λ k. taylor R d (Q k) c.abscissa c.exponent_x) c.ordinate c.exponent_y
  discrepancy_nested d l Q c =
      taylor_constant_at l (λ k. taylor R d (Q k) c.abscissa) c.ordinate c.exponent_y c.exponent_x
