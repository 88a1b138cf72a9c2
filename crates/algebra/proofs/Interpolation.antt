-- There is one polynomial of degree below m through m points with distinct abscissae, and Newton's form gives it.
use mathlib.Core.Path.{◌≡◌, refl, sym, ◌∙◌, ap, ap₂}
use Prim.Native.Nat.{ℕ, zero, suc, ◌<◌}
use native.Mathlib.Omega.{arith}
use Rattle.algebra.specs.Ring.{CommRing, Field, no_zero_divisors, sub_nonzero}
use Rattle.algebra.specs.Solver.{ring2, ring3, ring4, :1, ◌:+◌, ◌:*◌, ◌:-◌, ◌:≡◌}
use Rattle.algebra.specs.Series.{Series, tail, constant, x_minus, series}
use Rattle.algebra.specs.Degree.{Below}
use Rattle.algebra.specs.Evaluation.{eval}
use Rattle.algebra.specs.Interpolation.{Separate, differences, newton, newton_value}
use Rattle.algebra.proofs.Degree.{below_zero, below_add, below_weaken, below_constant, below_x_minus_mul}
use Rattle.algebra.proofs.Evaluation.{eval_add, eval_constant, eval_x_minus_mul}
use Rattle.algebra.proofs.Roots.{separate_tail, separate_first, equal_by_values}

module _ {K : Type 0} (F : Field K) where
  abbrev R : CommRing K
  R = F.ring

  open R use {zero as 𝟘, one as 𝟙, add as ◌+◌, mul as ◌*◌, neg as -◌}
  open series R use {zero as 𝟎, one as 𝟏, add as ◌⊕◌, mul as ◌⊗◌, neg as ⊖◌}

  infixl 65 ◌+◌
  infixl 70 ◌*◌
  infix 75 -◌
  infixl 65 ◌⊕◌
  infixl 70 ◌⊗◌
  infix 75 ⊖◌
  pub below_newton : (m : ℕ) (α β : ℕ → K) → Below R m (newton F m α β)
  below_newton zero α β = below_zero R 0
  below_newton (suc m) α β =
      below_add
      R
      (below_weaken R (omega arith) (below_constant R (β 0)))
      (below_x_minus_mul R (α 0) (below_newton m (tail α) (differences F α β)))

  pub eval_newton : (m : ℕ) (α β : ℕ → K) (z : K) → eval R m (newton F m α β) z ≡ newton_value F m α β z
  eval_newton zero α β z = refl
  eval_newton (suc m) α β z =
      let g : Series K = newton F m (tail α) (differences F α β) in
      eval_add R (suc m) (constant R (β 0)) (x_minus R (α 0) ⊗ g) z
      ∙ ap₂
      ◌+◌
      (eval_constant R m (β 0) z)
      (eval_x_minus_mul R m (α 0) g z (below_newton m (tail α) (differences F α β))
      ∙ ap (λ x. (z + - α 0) * x) (eval_newton m (tail α) (differences F α β) z))

  -- Newton's form goes through the points
  pub newton_through : (m : ℕ) (α β : ℕ → K)
      → Separate m α
      → (i : ℕ)
      → i < m
      → newton_value F m α β (α i) ≡ β i
  newton_through zero α β s i h = absurd (omega arith)
  newton_through (suc m) α β s zero h = ring3 R (λ b a v. b :+ (a :- a) :* v :≡ b) tt _ _ _
  newton_through (suc m) α β s (suc i) h =
      let w : K = α (suc i) + - α 0 in
      ap
      (λ x. β 0 + w * x)
      (newton_through m (tail α) (differences F α β) (separate_tail m α s) i (omega arith))
      ∙ ring4 R (λ b w c v. b :+ w :* ((c :- b) :* v) :≡ b :+ (w :* v) :* (c :- b)) tt (β 0) w (β (suc i)) (F.inv w)
      ∙ ap
      (λ x. β 0 + x * (β (suc i) + - β 0))
      (F.inv_law w (sub_nonzero F (α (suc i)) (α 0) (separate_first m α s i (omega arith))))
      ∙ ring2 R (λ b c. b :+ :1 :* (c :- b) :≡ c) tt (β 0) (β (suc i))

  -- the polynomial through the points is Newton's
  pub newton_unique : (m : ℕ) (α β : ℕ → K) (f : Series K)
      → Separate m α
      → Below R m f
      → ((i : ℕ) → i < m → eval R m f (α i) ≡ β i)
      → f ≡ newton F m α β
  newton_unique m α β f s b v =
      equal_by_values
      R
      (no_zero_divisors F)
      m
      α
      f
      (newton F m α β)
      s
      b
      (below_newton m α β)
      (λ i h. v i h ∙ sym (eval_newton m α β (α i) ∙ newton_through m α β s i h))

  -- its value at any other point is given by Newton's form
  pub value_by_newton : (m : ℕ) (α β : ℕ → K) (f : Series K)
      → Separate m α
      → Below R m f
      → ((i : ℕ) → i < m → eval R m f (α i) ≡ β i)
      → (z : K)
      → eval R m f z ≡ newton_value F m α β z
  value_by_newton m α β f s b v z =
      ap (λ g. eval R m g z) (newton_unique m α β f s b v) ∙ eval_newton m α β z
