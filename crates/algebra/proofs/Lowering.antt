-- One division of Q by x keeps roots, bounds and being other than zero.
use mathlib.Core.Path.{◌≡◌, sym, ◌∙◌, ap, fun_ext}
use mathlib.Core.Logic.{◌↔◌}
use Prim.Native.Nat.{ℕ, zero, suc, ◌<◌}
use Prim.Native.Nat
use native.Mathlib.Omega.{arith}
use native.Mathlib.Decide.{dec_lt}
use Rattle.algebra.specs.Ring.{CommRing, zero_add, mul_zero}
use Rattle.algebra.specs.Series.{Series, tail, constant, X, series}
use Rattle.algebra.proofs.Coefficients.{zero_at, constant_zero, constant_mul_at}
use Rattle.algebra.proofs.Linear.{head_tail, XMulAtSuc}
use Rattle.algebra.specs.Degree.{Below}
use Rattle.algebra.specs.Bivariate.{Bivariate, Weighted, scale, substitute}
use Rattle.algebra.specs.RootSearch.{Nonzero, Root, Vanish, at_zero, lower}
use Rattle.algebra.proofs.Evaluation.{eval_cong, eval_multiple}

module _ {K : Type 0} (R : CommRing K) where
  open R use {zero as 𝟘, one as 𝟙, add as ◌+◌, mul as ◌*◌, neg as -◌}
  open series R use {zero as 𝟎, one as 𝟏, add as ◌⊕◌, mul as ◌⊗◌, neg as ⊖◌}

  infixl 65 ◌+◌
  infixl 70 ◌*◌
  infix 75 -◌
  infixl 65 ◌⊕◌
  infixl 70 ◌⊗◌
  infix 75 ⊖◌
  -- g(x)·Q at y = f
  pub substitute_scale : (l : ℕ) (g : Series K) (Q : Bivariate K) (f : Series K)
      → substitute R l (scale R g Q) f ≡ g ⊗ substitute R l Q f
  substitute_scale l g Q f =
      eval_cong
      (series R)
      l
      (scale R g Q)
      ((series (series R)).mul (constant (series R) g) Q)
      f
      (λ c h. sym (constant_mul_at (series R) g Q c))
      ∙ eval_multiple (series R) l g Q f

  -- x is no zero divisor
  pub XCancel : (f : Series K) → X R ⊗ f ≡ 𝟎 → f ≡ 𝟎
  XCancel f e = fun_ext (λ n. sym (XMulAtSuc R f n) ∙ ap (λ g. g (suc n)) e ∙ zero_at R (suc n) ∙ sym (zero_at R n))

  -- a series without constant term is x times its tail
  pub XDivides : (f : Series K) → f 0 ≡ 𝟘 → f ≡ X R ⊗ tail f
  XDivides f e =
      head_tail R f
      ∙ ap (λ c. c ⊕ X R ⊗ tail f) (ap (constant R) e ∙ constant_zero R)
      ∙ zero_add (series R) (X R ⊗ tail f)

  substitute_lower : (l : ℕ) (Q : Bivariate K) (f : Series K)
      → Vanish R l (at_zero Q)
      → substitute R l Q f ≡ X R ⊗ substitute R l (lower Q) f
  substitute_lower l Q f v =
      eval_cong (series R) l Q (scale R (X R) (lower Q)) f (λ c h. XDivides (Q c) (v c h))
      ∙ substitute_scale l (X R) (lower Q) f

  -- Q and Q / x have the same roots
  pub root_lower : (l : ℕ) (Q : Bivariate K) (f : Series K)
      → Vanish R l (at_zero Q)
      → Root R l Q f ↔ Root R l (lower Q) f
  root_lower l Q f v = (
    λ e. XCancel (substitute R l (lower Q) f) (sym (substitute_lower l Q f v) ∙ e),
    λ e. substitute_lower l Q f v ∙ ap (λ g. X R ⊗ g) e ∙ mul_zero (series R) (X R),
  )

  pub weighted_lower : (s D : ℕ) (Q : Bivariate K) → Weighted R s D Q → Weighted R s (Nat.◌-◌ D 1) (lower Q)
  weighted_lower s D Q w c i h = w c (suc i) (omega arith)

  pub below_lower : (d : ℕ) (Q : Bivariate K) → ((c : ℕ) → Below R d (Q c)) → (c : ℕ) → Below R (Nat.◌-◌ d 1) (lower Q c)
  below_lower d Q b c n h = b c (suc n) (omega arith)

  pub below_lower_y : (l : ℕ) (Q : Bivariate K) → Below (series R) l Q → Below (series R) l (lower Q)
  below_lower_y l Q b c h = fun_ext (λ n. ap (λ f. f (suc n)) (b c h) ∙ zero_at R (suc n) ∙ sym (zero_at R n))

  -- the constant terms from y^l on are zero as well
  vanish_all : (l : ℕ) (Q : Bivariate K) → Below (series R) l Q → Vanish R l (at_zero Q) → (c : ℕ) → Q c 0 ≡ 𝟘
  vanish_all l Q b v c = go (dec_lt c l)
    where
      go : Dec (c < l) → Q c 0 ≡ 𝟘
      go (yes h) = v c h
      go (no h) = ap (λ f. f 0) (b c (omega arith)) ∙ zero_at R 0

  -- a polynomial whose coefficients are all zero is zero
  pub zero_of_coefficients : (Q : Bivariate K) → ((c i : ℕ) → Q c i ≡ 𝟘) → Q ≡ (series (series R)).zero
  zero_of_coefficients Q v =
      fun_ext (λ c. fun_ext (λ i. v c i ∙ sym (zero_at R i)) ∙ sym (zero_at (series R) c))

  -- the coefficients of the zero polynomial
  pub coefficients_of_zero : (Q : Bivariate K) → Q ≡ (series (series R)).zero → (c i : ℕ) → Q c i ≡ 𝟘
  coefficients_of_zero Q e c i = ap (λ P. P c i) e ∙ ap (λ f. f i) (zero_at (series R) c) ∙ zero_at R i

  pub nonzero_lower : (l : ℕ) (Q : Bivariate K)
      → Below (series R) l Q
      → Vanish R l (at_zero Q)
      → Nonzero R Q
      → Nonzero R (lower Q)
  nonzero_lower l Q b v z e =
      z (zero_of_coefficients Q (λ c. elim [ zero ↦ vanish_all l Q b v c | suc i ↦ coefficients_of_zero (lower Q) e c i ]))

  -- a polynomial of degree below 1 in x without constant terms is zero
  pub zero_of_vanish : (l : ℕ) (Q : Bivariate K)
      → Below (series R) l Q
      → ((c : ℕ) → Below R 1 (Q c))
      → Vanish R l (at_zero Q)
      → Q ≡ (series (series R)).zero
  zero_of_vanish l Q b d v =
      zero_of_coefficients Q (λ c. elim [ zero ↦ vanish_all l Q b v c | suc i ↦ d c (suc i) (omega arith) ])
