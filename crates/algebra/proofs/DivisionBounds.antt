-- Bounds of the degree in x for the division by y − V.
use mathlib.Core.Path.{◌≡◌, ◌∙◌, ap}
use Prim.Native.Nat.{ℕ, zero, suc, ◌≤◌, ◌<◌}
use Prim.Native.Nat
use native.Mathlib.Omega.{arith}
use native.Mathlib.Decide.{dec_lt}
use native.Mathlib.Nat.{mul-le-mul_left}
use Rattle.algebra.specs.Ring.{CommRing}
use Rattle.algebra.specs.Series.{Series, tail, series}
use Rattle.algebra.proofs.Coefficients.{zero_at}
use Rattle.algebra.specs.Degree.{Below}
use Rattle.algebra.specs.Evaluation.{quotient}
use Rattle.algebra.specs.Bivariate.{Bivariate, Weighted}
use Rattle.algebra.proofs.Degree.{below_zero, below_weaken}
use Rattle.algebra.proofs.Bivariate.{weighted_tail, below_substitute}

module _ {K : Type 0} (R : CommRing K) where
  -- degrees below d in x and below l in y bound the weighted degree
  pub weighted_box : (s d l : ℕ) (Q : Bivariate K)
      → ((c : ℕ) → Below R d (Q c))
      → Below (series R) l Q
      → Weighted R s (Nat.◌+◌ d (Nat.◌*◌ s l)) Q
  weighted_box s d l Q b y c i h = go (dec_lt c l)
    where
      go : Dec (c < l) → Q c i ≡ R.zero
      go (yes t) =
          let t' : c ≤ l = omega arith in
          let m : Nat.◌*◌ s c ≤ Nat.◌*◌ s l = mul-le-mul_left s t' in
          b c i (omega arith)
      go (no t) = ap (λ f. f i) (y c (omega arith)) ∙ zero_at R i

  -- the quotient by y − V has degree below D in x
  pub below_quotient_x : (l s D : ℕ) (Q : Bivariate K) (V : Series K)
      → Weighted R s D Q
      → Below R (suc s) V
      → (c : ℕ)
      → Below R D (quotient (series R) l Q V c)
  below_quotient_x zero s D Q V w b c = below_zero R D
  below_quotient_x (suc l) s D Q V w b zero =
      below_weaken
      R
      (omega arith)
      (below_substitute R l s (Nat.◌-◌ D s) (tail Q) V (weighted_tail R s D Q w) b)
  below_quotient_x (suc l) s D Q V w b (suc c) =
      below_weaken
      R
      (omega arith)
      (below_quotient_x l s (Nat.◌-◌ D s) (tail Q) V (weighted_tail R s D Q w) b c)

  -- the sequence that begins with g
  abbrev pub prepend : Series K → (ℕ → Series K) → ℕ → Series K
  prepend g h zero = g
  prepend g h (suc i) = h i

  pub below_prepend : (d e l : ℕ) (g : Series K) (h : ℕ → Series K)
      → Below R d g
      → ((i : ℕ) → i < l → Below R e (h i))
      → (i : ℕ)
      → i < suc l
      → Below R (Nat.◌+◌ d e) (prepend g h i)
  below_prepend d e l g h b bs zero t = below_weaken R (omega arith) b
  below_prepend d e l g h b bs (suc i) t = below_weaken R (omega arith) (bs i (omega arith))
