-- Division of Q by x as often as x divides it ends where a constant term is not zero.
use mathlib.Core.Path.{◌≡◌, refl, ◌∙◌, ap, subst}
use mathlib.Core.Logic.{◌↔◌}
use Prim.Native.Nat.{ℕ, zero, suc, ◌≤◌}
use native.Mathlib.Omega.{arith}
use native.Mathlib.Decide.{dec_le}
use Rattle.algebra.specs.Ring.{CommRing, Field}
use Rattle.algebra.specs.Series.{Series, series}
use Rattle.algebra.specs.Degree.{Below}
use Rattle.algebra.specs.Bivariate.{Bivariate, Weighted}
use Rattle.algebra.specs.RootSearch.{Nonzero, Root, Vanish, decide_vanish, at_zero, lower, strip}
use Rattle.algebra.proofs.Lowering.{root_lower, below_lower_y, nonzero_lower, zero_of_vanish}

module _ {K : Type 0} (F : Field K) where
  abbrev R : CommRing K
  R = F.ring

  abbrev chosen : (l n : ℕ) (Q : Bivariate K) → Dec (Vanish R l (at_zero Q)) → Bivariate K
  chosen l n Q c = elim c [ yes v ↦ strip F l n (lower Q) | no h ↦ Q ]

  -- one division more, where all constant terms are zero
  pub strip_step : (l n : ℕ) (Q : Bivariate K)
      → Vanish R l (at_zero Q)
      → strip F l (suc n) Q ≡ strip F l n (lower Q)
  unfolding strip
  strip_step l n Q v = go (decide_vanish F l (at_zero Q))
    where
      go : (c : Dec (Vanish R l (at_zero Q))) → chosen l n Q c ≡ strip F l n (lower Q)
      go (yes w) = refl
      go (no h) = absurd (h v)

  -- no division, where a constant term is not zero
  pub strip_stop : (l n : ℕ) (Q : Bivariate K) → (Vanish R l (at_zero Q) → ⊥) → strip F l n Q ≡ Q
  unfolding strip
  strip_stop l zero Q h = refl
  strip_stop l (suc n) Q h = go (decide_vanish F l (at_zero Q))
    where
      go : (c : Dec (Vanish R l (at_zero Q))) → chosen l n Q c ≡ Q
      go (yes v) = absurd (h v)
      go (no k) = refl

  -- the next of a row of divisions, where all constant terms are still zero
  pub strip_last : (l n : ℕ) (Q : Bivariate K)
      → Vanish R l (at_zero (strip F l n Q))
      → strip F l (suc n) Q ≡ lower (strip F l n Q)
  unfolding strip
  strip_last l zero Q v = strip_step l 0 Q v
  strip_last l (suc n) Q v = go (decide_vanish F l (at_zero Q)) v (strip_last l n (lower Q))
    where
      go : (c : Dec (Vanish R l (at_zero Q)))
          → Vanish R l (at_zero (chosen l n Q c))
          → (Vanish R l (at_zero (strip F l n (lower Q))) → strip F l (suc n) (lower Q) ≡ lower (strip F l n (lower Q)))
          → chosen l (suc n) Q c ≡ lower (chosen l n Q c)
      go (yes w) t r = r t
      go (no h) t r = absurd (h t)

  -- once a constant term is not zero, more divisions change nothing
  pub strip_done : (l n : ℕ) (Q : Bivariate K)
      → (Vanish R l (at_zero (strip F l n Q)) → ⊥)
      → strip F l (suc n) Q ≡ strip F l n Q
  unfolding strip
  strip_done l zero Q h = strip_stop l 1 Q h
  strip_done l (suc n) Q h = go (decide_vanish F l (at_zero Q)) h (strip_done l n (lower Q))
    where
      go : (c : Dec (Vanish R l (at_zero Q)))
          → (Vanish R l (at_zero (chosen l n Q c)) → ⊥)
          → ((Vanish R l (at_zero (strip F l n (lower Q))) → ⊥) → strip F l (suc n) (lower Q) ≡ strip F l n (lower Q))
          → chosen l (suc n) Q c ≡ chosen l n Q c
      go (yes w) t r = r t
      go (no k) t r = refl

  pub strip_settled : (l n m : ℕ) (Q : Bivariate K)
      → (Vanish R l (at_zero (strip F l n Q)) → ⊥)
      → n ≤ m
      → strip F l m Q ≡ strip F l n Q
  strip_settled l n zero Q h k = ap (λ j. strip F l j Q) (omega arith)
  strip_settled l n (suc m) Q h k = go (dec_le n m) (strip_settled l n m Q h)
    where
      go : Dec (n ≤ m) → (n ≤ m → strip F l m Q ≡ strip F l n Q) → strip F l (suc m) Q ≡ strip F l n Q
      go (yes t) r = strip_done l m Q (λ v. h (subst (λ P. Vanish R l (at_zero P)) (r t) v)) ∙ r t
      go (no t) r = ap (λ j. strip F l j Q) (omega arith)

  -- what each division keeps is kept
  pub strip_keeps : (P : Bivariate K → Type 0) (l : ℕ)
      → ((Q : Bivariate K) → Vanish R l (at_zero Q) → P Q → P (lower Q))
      → (n : ℕ) (Q : Bivariate K)
      → P Q
      → P (strip F l n Q)
  unfolding strip
  strip_keeps P l k zero Q p = p
  strip_keeps P l k (suc n) Q p = go (decide_vanish F l (at_zero Q)) (λ v. strip_keeps P l k n (lower Q) (k Q v p))
    where
      go : (c : Dec (Vanish R l (at_zero Q))) → (Vanish R l (at_zero Q) → P (strip F l n (lower Q))) → P (chosen l n Q c)
      go (yes v) r = r v
      go (no h) r = p

  pub root_strip : (l n : ℕ) (Q : Bivariate K) (f : Series K) → Root R l Q f ↔ Root R l (strip F l n Q) f
  root_strip l n Q f =
      strip_keeps
      (λ P. Root R l Q f ↔ Root R l P f)
      l
      (λ P v e. (λ r. (root_lower R l P f v).0 (e.0 r), λ r. e.1 ((root_lower R l P f v).1 r)))
      n
      Q
      (λ e. e, λ e. e)

  pub weighted_strip : (l n s D : ℕ) (Q : Bivariate K) → Weighted R s D Q → Weighted R s D (strip F l n Q)
  weighted_strip l n s D Q w = strip_keeps (Weighted R s D) l (λ P v u c i h. u c (suc i) (omega arith)) n Q w

  pub below_strip_y : (l n : ℕ) (Q : Bivariate K) → Below (series R) l Q → Below (series R) l (strip F l n Q)
  below_strip_y l n Q b = strip_keeps (Below (series R) l) l (λ P v c. below_lower_y R l P c) n Q b

  pub nonzero_strip : (l n : ℕ) (Q : Bivariate K)
      → Below (series R) l Q
      → Nonzero R Q
      → Nonzero R (strip F l n Q)
  nonzero_strip l n Q b z =
      (strip_keeps
      (λ P. Below (series R) l P × Nonzero R P)
      l
      (λ P v t. (below_lower_y R l P t.0, nonzero_lower R l P t.0 v t.1))
      n
      Q
      (b, z)
      ).1

  -- fewer divisions than the bound of the degree in x lead to a constant term that is not zero
  pub strip_start : (l n : ℕ) (Q : Bivariate K)
      → Below (series R) l Q
      → Nonzero R Q
      → ((c : ℕ) → Below R (suc n) (Q c))
      → Vanish R l (at_zero (strip F l n Q))
      → ⊥
  unfolding strip
  strip_start l zero Q b z d v = z (zero_of_vanish R l Q b d v)
  strip_start l (suc n) Q b z d w =
      go
      (decide_vanish F l (at_zero Q))
      (λ v.
      strip_start
      l
      n
      (lower Q)
      (below_lower_y R l Q b)
      (nonzero_lower R l Q b v z)
      (λ c k h. d c (suc k) (omega arith)))
      w
    where
      go : (c : Dec (Vanish R l (at_zero Q)))
          → (Vanish R l (at_zero Q) → Vanish R l (at_zero (strip F l n (lower Q))) → ⊥)
          → Vanish R l (at_zero (chosen l n Q c))
          → ⊥
      go (yes v) r = r v
      go (no h) r = h
