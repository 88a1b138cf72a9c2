-- Conditions on multiples and differences of polynomials.
use mathlib.Core.Path.{◌≡◌, refl, sym, ◌∙◌, ap, ap₂}
use mathlib.Core.List.{List}
use mathlib.Core.Logic.{inr}
use Prim.Native.Nat.{ℕ, zero, suc, ◌≤◌}
use Prim.Native.Nat
use native.Mathlib.Omega.{arith}
use Rattle.algebra.specs.Ring.{CommRing}
use Rattle.algebra.specs.Solver.{ring1, :0, ◌:*◌, ◌:-◌, ◌:≡◌}
use Rattle.algebra.specs.Series.{Series, x_minus}
use Rattle.algebra.proofs.Coefficients.{mul_at_zero_of}
use Rattle.algebra.specs.Degree.{Below}
use Rattle.algebra.specs.Evaluation.{taylor}
use Rattle.algebra.specs.Bivariate.{Bivariate, scale, local_expansion}
use Rattle.algebra.specs.Conditions.{Condition, discrepancy, Meets, MeetsAll, at_power, Prepared}
use Rattle.algebra.specs.Koetter.{less}
use Rattle.algebra.proofs.Degree.{below_x_minus_mul}
use Rattle.algebra.proofs.LocalExpansion.{local_scale, local_bound, local_sub_multiple_at, local_x_minus_at_zero, local_x_minus_at_suc}
use Rattle.algebra.proofs.Conditions.{Closed, closed_below}

module _ {K : Type 0} (R : CommRing K) where
  -- a multiple by a polynomial in x keeps the conditions of a closed list
  pub meets_scale : (D d e l : ℕ) (g : Series K) (Q : Bivariate K) (cs : List (Condition K))
      → Nat.◌+◌ d e ≤ suc D
      → e ≤ D
      → Below R d g
      → ((n : ℕ) → Below R e (Q n))
      → Closed cs
      → MeetsAll R D l Q cs
      → MeetsAll R D l (scale R g Q) cs
  meets_scale D d e l g Q cs h k bg bQ closed m c i =
      ap (λ f. f c.exponent_x) (local_scale R D d e l g Q c.abscissa c.ordinate c.exponent_y h bg bQ)
      ∙ mul_at_zero_of
      R
      (taylor R d g c.abscissa)
      (local_expansion R e l Q c.abscissa c.ordinate c.exponent_y)
      c.exponent_x
      (λ x y p.
      inr
      (sym (ap (λ L. L c.exponent_y y) (local_bound R e D l Q c.abscissa c.ordinate bQ k))
      ∙ m (at_power c y) (closed_below cs c y x closed i (omega arith))))

  -- (x − a) · Q meets a condition at a if Q meets the one at the next lower power of x
  pub meets_x_minus : (D e l : ℕ) (Q : Bivariate K) (cs : List (Condition K)) (c : Condition K)
      → suc e ≤ D
      → ((n : ℕ) → Below R e (Q n))
      → Prepared cs c
      → MeetsAll R D l Q cs
      → Meets R D l (scale R (x_minus R c.abscissa) Q) c
  meets_x_minus D e l Q cs c h b p m = go c.exponent_x p
    where
      bounds : (Q' : Bivariate K) (d r : ℕ)
          → d ≤ D
          → ((n : ℕ) → Below R d (Q' n))
          → local_expansion R D l Q' c.abscissa c.ordinate c.exponent_y r
          ≡ local_expansion R d l Q' c.abscissa c.ordinate c.exponent_y r
      bounds Q' d r k b' = ap (λ L. L c.exponent_y r) (local_bound R d D l Q' c.abscissa c.ordinate b' k)

      raised : (n : ℕ) → Below R (suc e) (scale R (x_minus R c.abscissa) Q n)
      raised n = below_x_minus_mul R c.abscissa (b n)

      go : (r : ℕ)
          → Prepared cs (at_power c r)
          → Meets R D l (scale R (x_minus R c.abscissa) Q) (at_power c r)
      go zero k =
          bounds (scale R (x_minus R c.abscissa) Q) (suc e) 0 h raised
          ∙ local_x_minus_at_zero R e l Q c.abscissa c.ordinate c.exponent_y b
      go (suc r) k =
          bounds (scale R (x_minus R c.abscissa) Q) (suc e) (suc r) h raised
          ∙ local_x_minus_at_suc R e l Q c.abscissa c.ordinate c.exponent_y r b
          ∙ sym (bounds Q e r (omega arith) b)
          ∙ m (at_power c r) (k r refl)

  -- the discrepancy of P − k·Q
  pub discrepancy_less : (D l : ℕ) (P : Bivariate K) (k : K) (Q : Bivariate K) (c : Condition K)
      → ((n : ℕ) → Below R D (Q n))
      → discrepancy R D l (less R P k Q) c
      ≡ R.add (discrepancy R D l P c) (R.neg (R.mul k (discrepancy R D l Q c)))
  discrepancy_less D l P k Q c b =
      local_sub_multiple_at R D l k P Q c.abscissa c.ordinate c.exponent_y c.exponent_x b

  pub meets_less : (D l : ℕ) (P : Bivariate K) (k : K) (Q : Bivariate K) (cs : List (Condition K))
      → ((n : ℕ) → Below R D (Q n))
      → MeetsAll R D l P cs
      → MeetsAll R D l Q cs
      → MeetsAll R D l (less R P k Q) cs
  meets_less D l P k Q cs b h i c m =
      discrepancy_less D l P k Q c b
      ∙ ap₂ (λ x y. R.add x (R.neg (R.mul k y))) (h c m) (i c m)
      ∙ ring1 R (λ k. :0 :- k :* :0 :≡ :0) tt k

  -- any bound of the degree in x gives the same conditions
  pub meets_raise : (d e l : ℕ) (Q : Bivariate K) (cs : List (Condition K))
      → d ≤ e
      → ((n : ℕ) → Below R d (Q n))
      → MeetsAll R d l Q cs
      → MeetsAll R e l Q cs
  meets_raise d e l Q cs h b k c m =
      ap (λ L. L c.exponent_y c.exponent_x) (local_bound R d e l Q c.abscissa c.ordinate b h) ∙ k c m

  pub meets_lower : (d e l : ℕ) (Q : Bivariate K) (cs : List (Condition K))
      → d ≤ e
      → ((n : ℕ) → Below R d (Q n))
      → MeetsAll R e l Q cs
      → MeetsAll R d l Q cs
  meets_lower d e l Q cs h b k c m =
      sym (ap (λ L. L c.exponent_y c.exponent_x) (local_bound R d e l Q c.abscissa c.ordinate b h)) ∙ k c m
