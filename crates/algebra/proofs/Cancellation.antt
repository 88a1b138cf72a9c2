-- Heads that cancel: multiples of a row, and differences of two polynomials with the same head.
use mathlib.Core.Path.{◌≡◌, sym, ◌∙◌, ap, subst}
use mathlib.Core.List.{List}
use Prim.Native.Nat.{ℕ, zero, suc, ◌<◌, ◌-◌}
use Prim.Native.Nat
use native.Mathlib.Omega.{arith}
use Rattle.algebra.specs.Ring.{CommRing, Field}
use Rattle.algebra.specs.Solver.{ring1, ring2, :0, :1, ◌:*◌, ◌:-◌, ◌:≡◌}
use Rattle.algebra.specs.Series.{x_minus, series}
use Rattle.algebra.proofs.Coefficients.{zero_at}
use Rattle.algebra.specs.Degree.{Below}
use Rattle.algebra.specs.Bivariate.{Bivariate, scale}
use Rattle.algebra.specs.Conditions.{Condition, discrepancy, Meets}
use Rattle.algebra.specs.Koetter.{Before, Head, less}
use Rattle.algebra.proofs.Conditions.{Closed}
use Rattle.algebra.proofs.ConditionMultiples.{discrepancy_less}
use Rattle.algebra.proofs.Head.{less_at, is_less, before_less}
use Rattle.algebra.proofs.HeadSearch.{before_across}
use Rattle.algebra.proofs.KoetterRow.{Sound, sound_times, cleared}

module _ {K : Type 0} (F : Field K) where
  abbrev R : CommRing K
  R = F.ring

  open R use {zero as 𝟘, one as 𝟙, add as ◌+◌, mul as ◌*◌, neg as -◌}

  infixl 65 ◌+◌
  infixl 70 ◌*◌
  infix 75 -◌
  -- zero meets every condition
  pub meets_zero : (D l : ℕ) (P : Bivariate K) (c : Condition K) → P ≡ (series (series R)).zero → Meets R D l P c
  meets_zero D l P c e =
      ap (λ Q. discrepancy R D l Q c) (e ∙ sym same)
      ∙ discrepancy_less R D l Z 𝟙 Z c (λ n i h. nothing n i)
      ∙ ring1 R (λ x. x :- :1 :* x :≡ :0) tt (discrepancy R D l Z c)
    where
      Z : Bivariate K
      Z = (series (series R)).zero

      nothing : (n i : ℕ) → Z n i ≡ 𝟘
      nothing n i = ap (λ f. f i) (zero_at (series R) n) ∙ zero_at R i

      same : less R Z 𝟙 Z ≡ Z
      same =
          sym
          (is_less
          R
          Z
          Z
          𝟙
          Z
          (λ c i. nothing c i ∙ sym (ring1 R (λ x. x :- :1 :* x :≡ :0) tt (Z c i))))

  -- a multiple by a power of x, whose head stands where it is wanted
  pub sound_raise : (s D l : ℕ) (cs : List (Condition K)) (d j : ℕ) (Q : Bivariate K) (m : ℕ)
      → Closed cs
      → Nat.◌+◌ d m < D
      → Sound F s D l cs d j Q
      → (P : Bivariate K) × Sound F s D l cs (Nat.◌+◌ d m) j P
  sound_raise s D l cs d j Q zero w h k =
      let e : d ≡ Nat.◌+◌ d 0 = omega arith in
      (Q, subst (λ x. Sound F s D l cs x j Q) e k)
  sound_raise s D l cs d j Q (suc m) w h k =
      let r : (P : Bivariate K) × Sound F s D l cs (Nat.◌+◌ d m) j P = sound_raise s D l cs d j Q m w (omega arith) k in
      let e : suc (Nat.◌+◌ d m) ≡ Nat.◌+◌ d (suc m) = omega arith in (
        scale R (x_minus R 𝟘) r.0,
        subst
            (λ x. Sound F s D l cs x j (scale R (x_minus R 𝟘) r.0))
            e
            (sound_times F s D l cs 𝟘 (Nat.◌+◌ d m) j r.0 w (omega arith) r.1),
      )

  -- the factor by which Q is subtracted from P where both have their heads at (e, j)
  abbrev pub factor : ℕ → ℕ → ℕ → Bivariate K → Bivariate K → K
  factor s e j P Q = P j (e - Nat.◌*◌ s j) * F.inv (Q j (e - Nat.◌*◌ s j))

  -- the heads cancel
  pub before_cancelled : (s e j : ℕ) (P Q : Bivariate K)
      → Before R s e (suc j) P
      → Head R s e j Q
      → Before R s e j (less R P (factor s e j P Q) Q)
  before_cancelled s e j P Q w h =
      before_across
      R
      s
      e
      j
      (less R P (factor s e j P Q) Q)
      (before_less R s e (suc j) P (factor s e j P Q) Q w h.rest)
      (λ k. less_at R P (factor s e j P Q) Q j (e - Nat.◌*◌ s j) ∙ cleared F (P j (e - Nat.◌*◌ s j)) (Q j (e - Nat.◌*◌ s j)) h.leads)

  -- if P − k·Q meets the condition, and Q too, so does P
  pub meets_back : (D l : ℕ) (c : Condition K) (P : Bivariate K) (k : K) (Q : Bivariate K)
      → ((n : ℕ) → Below R D (Q n))
      → Meets R D l Q c
      → Meets R D l (less R P k Q) c
      → Meets R D l P c
  meets_back D l c P k Q b m h =
      ring2 R (λ p k. p :≡ p :- k :* :0) tt (discrepancy R D l P c) k
      ∙ ap (λ x. discrepancy R D l P c + - (k * x)) (sym m)
      ∙ sym (discrepancy_less R D l P k Q c b)
      ∙ h
