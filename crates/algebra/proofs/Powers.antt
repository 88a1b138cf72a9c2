-- Degrees, expansions and orders of powers of x − a, and of the product of such powers over a list of points.
use mathlib.Core.Path.{◌≡◌, sym, ◌∙◌, ap, subst}
use mathlib.Core.List.{List, [], ◌∷◌}
use Prim.Native.Nat.{ℕ, zero, suc}
use native.Mathlib.Omega.{arith}
use Rattle.algebra.specs.Ring.{CommRing}
use Rattle.algebra.specs.Series.{X, x_minus, series}
use Rattle.algebra.proofs.Coefficients.{one_constant}
use Rattle.algebra.specs.Degree.{Below, Divisible}
use Rattle.algebra.specs.Evaluation.{taylor}
use Rattle.algebra.specs.Sum.{power}
use Rattle.algebra.specs.Order.{Order, total, locator}
use Rattle.algebra.proofs.Degree.{below_one, below_mul, below_x_minus_mul}
use Rattle.algebra.proofs.Divisibility.{divisible_X_mul}
use Rattle.algebra.proofs.Taylor.{taylor_constant, taylor_x_minus_self_mul}

module _ {K : Type 0} (R : CommRing K) where
  open series R use {zero as 𝟎, one as 𝟏, mul as ◌⊗◌}

  infixl 70 ◌⊗◌
  pub below_power : (a : K) (m : ℕ) → Below R (suc m) (power (series R) (x_minus R a) m)
  below_power a zero = below_one R
  below_power a (suc m) = below_x_minus_mul R a (below_power a m)

  pub taylor_one : (d : ℕ) (a : K) → taylor R (suc d) 𝟏 a ≡ 𝟏
  taylor_one d a =
      ap (λ f. taylor R (suc d) f a) (one_constant R) ∙ taylor_constant R d R.one a ∙ sym (one_constant R)

  -- (x − a)^m is x^m at a
  pub taylor_power : (a : K) (m : ℕ)
      → taylor R (suc m) (power (series R) (x_minus R a) m) a ≡ power (series R) (X R) m
  taylor_power a zero = taylor_one 0 a
  taylor_power a (suc m) =
      taylor_x_minus_self_mul R (suc m) (power (series R) (x_minus R a) m) a (below_power a m)
      ∙ ap (λ f. X R ⊗ f) (taylor_power a m)

  pub divisible_X_power : (m : ℕ) → Divisible R m (power (series R) (X R) m)
  divisible_X_power zero n h = absurd (omega arith)
  divisible_X_power (suc m) n h = divisible_X_mul R (divisible_X_power m) n h

  -- (x − a)^m vanishes at a to order m
  pub order_power : (a : K) (m : ℕ) → Order R a m (suc m) (power (series R) (x_minus R a) m)
  order_power a m = subst (Divisible R m) (sym (taylor_power a m)) (divisible_X_power m)

  pub below_locator : (ps : List (K × ℕ)) → Below R (suc (total ps)) (locator R ps)
  below_locator [] = below_one R
  below_locator (p ∷ ps) = below_mul R (omega arith) (below_power p.0 p.1) (below_locator ps)
