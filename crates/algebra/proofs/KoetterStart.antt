-- Koetter's method starts with rows that satisfy its invariant.
use mathlib.Core.Path.{◌≡◌, refl, sym, ◌∙◌, ap, subst, subst₂}
use mathlib.Core.List.{[]}
use Prim.Native.Nat.{ℕ, zero, suc, ◌+◌, ◌*◌, ◌-◌, ◌≤◌, ◌<◌}
use native.Mathlib.Omega.{arith}
use native.Mathlib.Decide.{ℕ_discrete}
use Rattle.algebra.specs.Ring.{CommRing, Field}
use Rattle.algebra.specs.Series.{series}
use Rattle.algebra.proofs.Coefficients.{zero_at, one_constant, constant_at_zero, constant_at_suc}
use Rattle.algebra.proofs.Linear.{XMulAtZero, XMulAtSuc}
use Rattle.algebra.specs.Degree.{Below}
use Rattle.algebra.specs.Conditions.{triangle}
use Rattle.algebra.specs.Koetter.{State, AtMost, Head, Start, degree_sum, Invariant, Least}
use Rattle.algebra.specs.Bivariate.{y_power}
use Rattle.algebra.proofs.Degree.{below_one}
use Rattle.algebra.proofs.Head.{head_narrow}
use Rattle.algebra.proofs.DegreeSum.{degree_sum_start}

module _ {K : Type 0} (R : CommRing K) where
  -- the coefficient of y^c in y^j
  pub y_power_self : (j : ℕ) → y_power R j j ≡ (series R).one
  y_power_self zero = ap (λ f. f 0) (one_constant (series R)) ∙ constant_at_zero (series R) (series R).one
  y_power_self (suc j) = XMulAtSuc (series R) (y_power R j) j ∙ y_power_self j

  pub y_power_other : (j c : ℕ) → (c ≡ j → ⊥) → y_power R j c ≡ (series R).zero
  y_power_other zero zero h = absurd (h refl)
  y_power_other zero (suc c) h = ap (λ f. f (suc c)) (one_constant (series R)) ∙ constant_at_suc (series R) (series R).one c
  y_power_other (suc j) zero h = XMulAtZero (series R) (y_power R j)
  y_power_other (suc j) (suc c) h = XMulAtSuc (series R) (y_power R j) c ∙ y_power_other j c (λ e. h (ap suc e))

module _ {K : Type 0} (F : Field K) where
  abbrev R : CommRing K
  R = F.ring

  -- y^j has its head at y^j, of weighted degree s·j
  pub y_power_head : (s j : ℕ) → Head R s (s * j) j (y_power R j)
  y_power_head s j = record { fits = omega arith; leads = leads; rest = λ c i h. rest c i h (ℕ_discrete c j) }
    where
      leads : y_power R j j (s * j - s * j) ≡ R.zero → ⊥
      leads q =
          let e : s * j - s * j ≡ 0 = omega arith in
          F.apart
          (sym q
          ∙ ap (y_power R j j) e
          ∙ ap (λ f. f 0) (y_power_self R j ∙ one_constant R)
          ∙ constant_at_zero R R.one)

      rest : (c i : ℕ) → AtMost (s * j) (suc j) (i + s * c) c → Dec (c ≡ j) → y_power R j c i ≡ R.zero
      rest c i h (yes e) =
          ap (λ k. y_power R j k i) e
          ∙ ap (λ f. f i) (y_power_self R j)
          ∙ below_one R i (above i (subst (λ k. AtMost (s * j) (suc j) (i + s * k) k) e h))
        where
          above : (n : ℕ) → AtMost (s * j) (suc j) (n + s * j) j → 1 ≤ n
          above zero k = let q : suc j ≤ j = k.1 (omega arith) in absurd (omega arith)
          above (suc n) k = omega arith
      rest c i h (no k) = ap (λ f. f i) (y_power_other R j c k) ∙ zero_at R i

  -- the start satisfies the invariant for no conditions
  pub start_invariant : (s D l : ℕ) (st : State K) → Start R s D l st → Invariant R s D l [] st
  start_invariant s D l st h =
      record {
        narrow = λ j k. subst (Below (series R) l) (sym (h.row j k)) (λ c n. y_power_other R j c (apart j c k.0 n));
        meets = λ j k c m. absurd m;
        head = λ j k. subst₂ (λ e Q. Head R s e j Q) (sym (h.degree j k.0)) (sym (h.row j k)) (y_power_head s j);
        total = let e : degree_sum l st.degrees ≡ s * triangle l = degree_sum_start l s st.degrees h.degree in omega arith;
      }
    where
      apart : (j c : ℕ) → j < l → l ≤ c → c ≡ j → ⊥
      apart j c a b e = omega arith

  -- and the degrees are least
  pub start_least : (s D l : ℕ) (st : State K) → Start R s D l st → Least R s D l [] st
  start_least s D l st h =
      record {
        bound = λ P e j _ b k _.
            let f : s * j ≤ e = k.fits in
            let d : st.degrees j ≡ s * j = h.degree j (head_narrow R s l e j P b k) in
            omega arith;
      }
