-- Weighted degrees of polynomials in x and y, and what substitution for y makes of them.
use mathlib.Core.Path.{◌≡◌, sym, ◌∙◌, ap, ap₂, subst, fun_ext}
use Prim.Native.Nat.{ℕ, zero, suc, ◌≤◌}
use Prim.Native.Nat
use native.Mathlib.Omega.{arith}
use native.Mathlib.Decide.{dec_le}
use Rattle.algebra.specs.Ring.{CommRing, mul_zero}
use Rattle.algebra.specs.Solver.{ring1, :0, ◌:*◌, ◌:-◌, :-◌, ◌:≡◌}
use Rattle.algebra.specs.Series.{Series, tail, constant, X, x_minus, series}
use Rattle.algebra.proofs.Coefficients.{add_at, neg_at, constant_mul_at}
use Rattle.algebra.proofs.Linear.{x_minus_mul_at_zero, x_minus_mul_at_suc}
use Rattle.algebra.specs.Degree.{Below}
use Rattle.algebra.specs.Evaluation.{taylor}
use Rattle.algebra.specs.Sum.{power}
use Rattle.algebra.specs.Bivariate.{Bivariate, Weighted, scale, substitute}
use Rattle.algebra.proofs.Degree.{zero_of_below, below_zero, below_add, below_mul, below_weaken}
use Rattle.algebra.proofs.Taylor.{taylor_zero, taylor_add, taylor_mul, taylor_bound}
use Rattle.algebra.proofs.Sum.{eval_dilate}
use Rattle.algebra.proofs.Expansion.{eval_taylor}

module _ {K : Type 0} (R : CommRing K) where
  open R use {zero as 𝟘, one as 𝟙, add as ◌+◌, mul as ◌*◌, neg as -◌}
  open series R use {zero as 𝟎, one as 𝟏, add as ◌⊕◌, mul as ◌⊗◌, neg as ⊖◌}

  infixl 65 ◌+◌
  infixl 70 ◌*◌
  infix 75 -◌
  infixl 65 ◌⊕◌
  infixl 70 ◌⊗◌
  infix 75 ⊖◌
  pub weighted_weaken : (s D E : ℕ) (Q : Bivariate K) → D ≤ E → Weighted R s D Q → Weighted R s E Q
  weighted_weaken s D E Q h w c i k = w c i (omega arith)

  -- the coefficient of y^c has degree below D − s·c
  pub weighted_coefficient : (s D : ℕ) (Q : Bivariate K) (c e : ℕ)
      → Weighted R s D Q
      → D ≤ Nat.◌+◌ e (Nat.◌*◌ s c)
      → Below R e (Q c)
  weighted_coefficient s D Q c e w h n k = w c n (omega arith)

  pub below_weighted : (s D : ℕ) (Q : Bivariate K) → Weighted R s D Q → (c : ℕ) → Below R D (Q c)
  below_weighted s D Q w c n h = w c n (omega arith)

  pub weighted_tail : (s D : ℕ) (Q : Bivariate K) → Weighted R s D Q → Weighted R s (Nat.◌-◌ D s) (tail Q)
  weighted_tail s D Q w c i h = w (suc c) i (omega arith)

  pub weighted_add : (s D : ℕ) (P Q : Bivariate K)
      → Weighted R s D P
      → Weighted R s D Q
      → Weighted R s D ((series (series R)).add P Q)
  weighted_add s D P Q v w c i h =
      ap (λ f. f i) (add_at (series R) P Q c) ∙ add_at R (P c) (Q c) i ∙ ap₂ ◌+◌ (v c i h) (w c i h) ∙ R.add_zero 𝟘

  pub weighted_neg : (s D : ℕ) (Q : Bivariate K) → Weighted R s D Q → Weighted R s D ((series (series R)).neg Q)
  weighted_neg s D Q w c i h =
      ap (λ f. f i) (neg_at (series R) Q c) ∙ neg_at R (Q c) i ∙ ap -◌ (w c i h) ∙ ring1 R (λ a. :- :0 :≡ :0) tt 𝟘

  pub weighted_multiple : (s D : ℕ) (k : K) (Q : Bivariate K)
      → Weighted R s D Q
      → Weighted R s D (scale R (constant R k) Q)
  weighted_multiple s D k Q w c i h = constant_mul_at R k (Q c) i ∙ ap (λ x. k * x) (w c i h) ∙ mul_zero R k

  -- a factor x − a raises the weighted degree by one
  pub weighted_x_minus : (s D : ℕ) (a : K) (Q : Bivariate K)
      → Weighted R s D Q
      → Weighted R s (suc D) (scale R (x_minus R a) Q)
  weighted_x_minus s D a Q w c zero h =
      x_minus_mul_at_zero R a (Q c)
      ∙ ap (λ x. - (a * x)) (w c 0 (omega arith))
      ∙ ring1 R (λ a. :- (a :* :0) :≡ :0) tt a
  weighted_x_minus s D a Q w c (suc i) h =
      x_minus_mul_at_suc R a (Q c) i
      ∙ ap₂ (λ x y. x + - (a * y)) (w c i (omega arith)) (w c (suc i) (omega arith))
      ∙ ring1 R (λ a. :0 :- a :* :0 :≡ :0) tt a

  -- the step of a substitution has degree below D, whichever of s and D is greater
  step_below : (s D : ℕ) (f g : Series K)
      → Below R (suc s) f
      → Below R (Nat.◌-◌ D s) g
      → Below R D (f ⊗ g)
  step_below s D f g b c = go (dec_le s D)
    where
      go : Dec (s ≤ D) → Below R D (f ⊗ g)
      go (yes h) = below_mul R (omega arith) b c
      go (no h) =
          let e : f ⊗ g ≡ 𝟎 = ap (λ k. f ⊗ k) (zero_of_below R g (below_weaken R (omega arith) c)) ∙ mul_zero (series R) f in
          subst (Below R D) (sym e) (below_zero R D)

  -- Q of weighted degree below D and f of degree at most s give Q(x, f(x)) of degree below D
  pub below_substitute : (l s D : ℕ) (Q : Bivariate K) (f : Series K)
      → Weighted R s D Q
      → Below R (suc s) f
      → Below R D (substitute R l Q f)
  below_substitute zero s D Q f w b = below_zero R D
  below_substitute (suc l) s D Q f w b =
      below_add
      R
      (below_weighted s D Q w 0)
      (step_below
      s
      D
      f
      (substitute R l (tail Q) f)
      b
      (below_substitute l s (Nat.◌-◌ D s) (tail Q) f (weighted_tail s D Q w) b))

  -- the expansion of a product of degree below D, whichever of s and D is greater
  step_taylor : (s D : ℕ) (f g : Series K) (a : K)
      → Below R (suc s) f
      → Below R (Nat.◌-◌ D s) g
      → taylor R D (f ⊗ g) a ≡ taylor R (suc s) f a ⊗ taylor R (Nat.◌-◌ D s) g a
  step_taylor s D f g a b c =
      sym (taylor_bound R D (Nat.◌+◌ s D) (f ⊗ g) a (step_below s D f g b c) (omega arith))
      ∙ taylor_mul R (Nat.◌+◌ s D) (suc s) (Nat.◌-◌ D s) f g a (omega arith) b c

  -- expansion at a goes through substitution
  pub taylor_substitute : (l s D : ℕ) (Q : Bivariate K) (f : Series K) (a : K)
      → Weighted R s D Q
      → Below R (suc s) f
      → taylor R D (substitute R l Q f) a ≡ substitute R l (λ c. taylor R D (Q c) a) (taylor R (suc s) f a)
  taylor_substitute zero s D Q f a w b = taylor_zero R D a
  taylor_substitute (suc l) s D Q f a w b =
      let g : Series K = substitute R l (tail Q) f in
      let v : Weighted R s (Nat.◌-◌ D s) (tail Q) = weighted_tail s D Q w in
      taylor_add R D (Q 0) (f ⊗ g) a
      ∙ ap
      (λ k. taylor R D (Q 0) a ⊕ k)
      (step_taylor s D f g a b (below_substitute l s (Nat.◌-◌ D s) (tail Q) f v b)
      ∙ ap
      (λ k. taylor R (suc s) f a ⊗ k)
      (taylor_substitute l s (Nat.◌-◌ D s) (tail Q) f a v b
      ∙ ap
      (λ P. substitute R l P (taylor R (suc s) f a))
      (fun_ext
      (λ c.
      sym
      (taylor_bound
      R
      (Nat.◌-◌ D s)
      D
      (tail Q c)
      a
      (below_weighted s (Nat.◌-◌ D s) (tail Q) v c)
      (omega arith))))))

  -- Q(x, γ + x·g) is Q(x, γ + x·y) at y = g
  pub substitute_step : (l : ℕ) (Q : Bivariate K) (γ : K) (g : Series K)
      → substitute R l Q (constant R γ ⊕ X R ⊗ g)
      ≡ substitute R l (λ c. power (series R) (X R) c ⊗ taylor (series R) l Q (constant R γ) c) g
  substitute_step l Q γ g =
      sym (eval_taylor (series R) l Q (constant R γ) (X R ⊗ g))
      ∙ eval_dilate (series R) l (taylor (series R) l Q (constant R γ)) (X R) g
