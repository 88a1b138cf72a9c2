-- What the invariant of Koetter's method says of a row, and what a step makes of the row.
use mathlib.Core.Path.{◌≡◌, sym, ◌∙◌, ap, subst}
use mathlib.Core.List.{List, [], ◌∷◌, ◌++◌}
use Prim.Native.Nat.{ℕ, suc, ◌≤◌, ◌<◌}
use native.Mathlib.Omega.{arith}
use Rattle.algebra.specs.Ring.{CommRing, Field, zero_mul, inv_mul}
use Rattle.algebra.specs.Solver.{ring1, :0, :1, ◌:*◌, ◌:-◌, ◌:≡◌}
use Rattle.algebra.specs.Series.{x_minus, series}
use Rattle.algebra.specs.Degree.{Below}
use Rattle.algebra.specs.Bivariate.{Bivariate, scale}
use Rattle.algebra.specs.Conditions.{Condition, discrepancy, Meets, MeetsAll, WellOrdered}
use Rattle.algebra.specs.Koetter.{State, Live, AtMost, Head, less, Invariant}
use Rattle.algebra.proofs.Degree.{below_weaken, below_x_minus}
use Rattle.algebra.proofs.Conditions.{Closed, well_ordered_before, well_ordered_prepared, well_ordered_closed}
use Rattle.algebra.proofs.ConditionsMet.{meets_last}
use Rattle.algebra.proofs.ConditionMultiples.{meets_scale, meets_x_minus, meets_less, discrepancy_less}
use Rattle.algebra.proofs.Head.{head_below, head_less, head_x_minus, before_weaken, less_zero, narrow_scale, narrow_less}

module _ {K : Type 0} (F : Field K) where
  abbrev R : CommRing K
  R = F.ring

  open R use {zero as 𝟘, one as 𝟙, add as ◌+◌, mul as ◌*◌, neg as -◌}

  infixl 65 ◌+◌
  infixl 70 ◌*◌
  infix 75 -◌
  -- what the invariant says of a live row
  pub record Sound (s D l : ℕ) (cs : List (Condition K)) (e j : ℕ) (Q : Bivariate K) : Type 0 where
    pub narrow : Below (series R) l Q
    pub meets : MeetsAll R D l Q cs
    pub head : Head R s e j Q

  pub sound_row : (s D l : ℕ) (cs : List (Condition K)) (st : State K)
      → Invariant R s D l cs st
      → (j : ℕ)
      → Live D l st j
      → Sound s D l cs (st.degrees j) j (st.rows j)
  sound_row s D l cs st inv j h = record { narrow = inv.narrow j h; meets = inv.meets j h; head = inv.head j h }

  -- each coefficient of a power of y has degree below D
  pub sound_below : (s D l : ℕ) (cs : List (Condition K)) (e j : ℕ) (Q : Bivariate K)
      → e < D
      → Sound s D l cs e j Q
      → (n : ℕ)
      → Below R D (Q n)
  sound_below s D l cs e j Q h k n = below_weaken R h (head_below R s e (suc j) Q k.head.rest n)

  -- a discrepancy that is cleared by the pivot's
  pub cleared : (x y : K) → (y ≡ 𝟘 → ⊥) → x + - (x * F.inv y * y) ≡ 𝟘
  cleared x y h =
      ap (λ z. x + - z) (R.mul_assoc x (F.inv y) y ∙ ap (λ z. x * z) (inv_mul F y h))
      ∙ ring1 R (λ x. x :- x :* :1 :≡ :0) tt x

  -- a multiple by x − a
  pub sound_times : (s D l : ℕ) (cs : List (Condition K)) (a : K) (e j : ℕ) (Q : Bivariate K)
      → Closed cs
      → suc e < D
      → Sound s D l cs e j Q
      → Sound s D l cs (suc e) j (scale R (x_minus R a) Q)
  sound_times s D l cs a e j Q w h k =
      record {
        narrow = narrow_scale R l (x_minus R a) Q k.narrow;
        meets = meets_scale
            R
            D
            2
            (suc e)
            l
            (x_minus R a)
            Q
            cs
            (omega arith)
            (omega arith)
            (below_x_minus R a)
            (head_below R s e (suc j) Q k.head.rest)
            w
            k.meets;
        head = head_x_minus R s e j a Q k.head;
      }

  pub sound_last : (s D l : ℕ) (cs : List (Condition K)) (c : Condition K) (e j : ℕ) (Q : Bivariate K)
      → Sound s D l cs e j Q
      → Meets R D l Q c
      → Sound s D l (cs ++ (c ∷ [])) e j Q
  sound_last s D l cs c e j Q k m =
      record { narrow = k.narrow; meets = meets_last R D l Q cs c k.meets m; head = k.head }

  -- the pivot is multiplied by x − a
  pub sound_pivot : (s D l : ℕ) (cs : List (Condition K)) (c : Condition K) (e j : ℕ) (Q : Bivariate K)
      → WellOrdered (cs ++ (c ∷ []))
      → suc e < D
      → Sound s D l cs e j Q
      → Sound s D l (cs ++ (c ∷ [])) (suc e) j (scale R (x_minus R c.abscissa) Q)
  sound_pivot s D l cs c e j Q w h k =
      sound_last
      s
      D
      l
      cs
      c
      (suc e)
      j
      (scale R (x_minus R c.abscissa) Q)
      (sound_times s D l cs c.abscissa e j Q (well_ordered_closed cs (well_ordered_before cs c w)) h k)
      (meets_x_minus
      R
      D
      (suc e)
      l
      Q
      cs
      c
      (omega arith)
      (head_below R s e (suc j) Q k.head.rest)
      (well_ordered_prepared cs c w)
      k.meets)

  -- another row is cleared by the pivot, whose head stands before its own unless it meets the condition already
  pub sound_other : (s D l : ℕ) (cs : List (Condition K)) (c : Condition K) (d p e j : ℕ) (P Q : Bivariate K)
      → d < D
      → (j ≡ p → ⊥)
      → (discrepancy R D l P c ≡ 𝟘 → ⊥)
      → ((discrepancy R D l Q c ≡ 𝟘 → ⊥) → AtMost d p e j)
      → Sound s D l cs d p P
      → Sound s D l cs e j Q
      → Sound s D l (cs ++ (c ∷ [])) e j (less R Q (discrepancy R D l Q c * F.inv (discrepancy R D l P c)) P)
  sound_other s D l cs c d p e j P Q h ne fails least v w =
      record {
        narrow = narrow_less R l Q k P w.narrow v.narrow;
        meets = meets_last R D l (less R Q k P) cs c (meets_less R D l Q k P cs b w.meets v.meets) met;
        head = head (F.decide (discrepancy R D l Q c) 𝟘);
      }
    where
      k : K
      k = discrepancy R D l Q c * F.inv (discrepancy R D l P c)

      b : (n : ℕ) → Below R D (P n)
      b = sound_below s D l cs d p P h v

      met : Meets R D l (less R Q k P) c
      met = discrepancy_less R D l Q k P c b ∙ cleared (discrepancy R D l Q c) (discrepancy R D l P c) fails

      head : Dec (discrepancy R D l Q c ≡ 𝟘) → Head R s e j (less R Q k P)
      head (yes q) =
          let z : k ≡ 𝟘 = ap (λ x. x * F.inv (discrepancy R D l P c)) q ∙ zero_mul R (F.inv (discrepancy R D l P c)) in
          subst (Head R s e j) (sym (ap (λ x. less R Q x P) z ∙ less_zero R Q P)) w.head
      head (no q) =
          let a : AtMost d p e j = least q in
          let strictly : d ≡ e → suc p ≤ j = λ g. let i : p ≤ j = a.1 g in let t : j ≡ p → ⊥ = ne in omega arith in
          head_less R s e j Q k P w.head (before_weaken R s d (suc p) e j P (a.0, strictly) v.head.rest)
