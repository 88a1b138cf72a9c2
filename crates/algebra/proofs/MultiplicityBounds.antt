-- The multiplicity for any bounds of the degrees, and the bounds of sums, multiples and products.
use mathlib.Core.Path.{sym, ◌∙◌, ap, subst}
use mathlib.Core.Logic.{inl}
use Prim.Native.Nat.{ℕ, zero, suc, ◌≤◌}
use Prim.Native.Nat
use native.Mathlib.Omega.{arith}
use Rattle.algebra.specs.Ring.{CommRing, mul_zero}
use Rattle.algebra.specs.Series.{Series, tail, series}
use Rattle.algebra.proofs.Coefficients.{add_at, mul_at_zero, mul_at_suc, mul_at_zero_of}
use Rattle.algebra.specs.Degree.{Below}
use Rattle.algebra.specs.Evaluation.{taylor}
use Rattle.algebra.specs.Order.{Order}
use Rattle.algebra.specs.Bivariate.{Bivariate, scale, local_expansion, Multiplicity}
use Rattle.algebra.proofs.Degree.{below_add, below_mul}
use Rattle.algebra.proofs.LocalExpansion.{local_scale, local_bound, local_bound_y}

module _ {K : Type 0} (R : CommRing K) where
  open R use {zero as 𝟘, one as 𝟙, add as ◌+◌, mul as ◌*◌, neg as -◌}
  open series R use {zero as 𝟎, one as 𝟏, add as ◌⊕◌, mul as ◌⊗◌, neg as ⊖◌}
  open series (series R) use {zero as 𝟬, add as ◌⊞◌, mul as ◌⊠◌, neg as ⊟◌}

  infixl 65 ◌⊕◌
  infixl 70 ◌⊗◌
  infix 75 ⊖◌
  infixl 65 ◌⊞◌
  infixl 70 ◌⊠◌
  infix 75 ⊟◌
  -- any bounds of the degree in x give the same multiplicity
  pub multiplicity_bound : (a b : K) (m d e l : ℕ) (Q : Bivariate K)
      → ((c : ℕ) → Below R d (Q c))
      → ((c : ℕ) → Below R e (Q c))
      → Multiplicity R a b m d l Q
      → Multiplicity R a b m e l Q
  multiplicity_bound a b m d e l Q bd be v u r h =
      ap
      (λ L. L u r)
      (sym (local_bound R e (Nat.◌+◌ d e) l Q a b be (omega arith)) ∙ local_bound R d (Nat.◌+◌ d e) l Q a b bd (omega arith))
      ∙ v u r h

  -- a larger bound of the degree in y gives the same multiplicity
  pub multiplicity_bound_y : (a b : K) (m d k l : ℕ) (Q : Bivariate K)
      → Below (series R) k Q
      → k ≤ l
      → Multiplicity R a b m d k Q
      → Multiplicity R a b m d l Q
  multiplicity_bound_y a b m d k l Q y h v u r t = ap (λ L. L u r) (local_bound_y R d k l Q a b y h) ∙ v u r t

  -- a factor g(x) that vanishes at a to order m gives multiplicity m
  pub multiplicity_order : (a b : K) (m c d e l : ℕ) (g : Series K) (Q : Bivariate K)
      → Nat.◌+◌ d e ≤ suc c
      → Below R d g
      → ((n : ℕ) → Below R e (Q n))
      → Order R a m d g
      → Multiplicity R a b m c l (scale R g Q)
  multiplicity_order a b m c d e l g Q h bg bQ o u r k =
      ap (λ f. f r) (local_scale R c d e l g Q a b u h bg bQ)
      ∙ mul_at_zero_of R (taylor R d g a) (local_expansion R e l Q a b u) r (λ i j p. inl (o i (omega arith)))

  -- the degrees in x add under products
  pub below_product : (c d e : ℕ) (P Q : Bivariate K)
      → Nat.◌+◌ d e ≤ suc c
      → ((n : ℕ) → Below R d (P n))
      → ((n : ℕ) → Below R e (Q n))
      → (n : ℕ)
      → Below R c ((P ⊠ Q) n)
  below_product c d e P Q h bP bQ zero =
      subst (Below R c) (sym (mul_at_zero (series R) P Q)) (below_mul R h (bP 0) (bQ 0))
  below_product c d e P Q h bP bQ (suc n) =
      subst
      (Below R c)
      (sym (mul_at_suc (series R) P Q n))
      (below_add R (below_mul R h (bP 0) (bQ (suc n))) (below_product c d e (tail P) Q h (λ k. bP (suc k)) bQ n))

  pub below_sum_of : (d : ℕ) (P Q : Bivariate K)
      → ((n : ℕ) → Below R d (P n))
      → ((n : ℕ) → Below R d (Q n))
      → (n : ℕ)
      → Below R d ((P ⊞ Q) n)
  below_sum_of d P Q bP bQ n = subst (Below R d) (sym (add_at (series R) P Q n)) (below_add R (bP n) (bQ n))

  pub below_scale_y : {l : ℕ} (g : Series K) (Q : Bivariate K) → Below (series R) l Q → Below (series R) l (scale R g Q)
  below_scale_y g Q y c h = ap (λ f. g ⊗ f) (y c h) ∙ mul_zero (series R) g
