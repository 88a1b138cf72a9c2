-- The product of x − α i over i < n: its degree, its zeros, and its powers as factors.
use mathlib.Core.Path.{◌≡◌, sym, ◌∙◌, ap}
use mathlib.Core.List.{List, [], ◌∷◌}
use Prim.Native.Nat.{ℕ, zero, suc, ◌<◌}
use Prim.Native.Nat
use native.Mathlib.Omega.{arith}
use Rattle.algebra.specs.Ring.{CommRing, mul_zero, zero_mul}
use Rattle.algebra.specs.Series.{Series, tail, x_minus, series}
use Rattle.algebra.specs.Degree.{Below}
use Rattle.algebra.specs.Evaluation.{eval}
use Rattle.algebra.specs.Sum.{power}
use Rattle.algebra.specs.Order.{Order, Orders, Differs, Distinct, locator}
use Rattle.algebra.specs.Interpolation.{Separate}
use Rattle.algebra.specs.Lattice.{nodal}
use Rattle.algebra.proofs.Degree.{below_one, below_mul, below_x_minus_mul}
use Rattle.algebra.proofs.Evaluation.{eval_x_minus_mul}
use Rattle.algebra.proofs.Taylor.{taylor_at_zero}
use Rattle.algebra.proofs.Order.{order_mul}
use Rattle.algebra.proofs.Roots.{separate_tail, separate_first}
use Rattle.algebra.proofs.Sum.{power_mul, power_one}

-- the first n members of the sequence, each with the order m
abbrev pub points : {K : Type 0} → ℕ → (ℕ → K) → ℕ → List (K × ℕ)
points zero α m = []
points (suc n) α m = (α 0, m) ∷ points n (tail α) m

module _ {K : Type 0} where
  differs_points : (a : K) (n : ℕ) (α : ℕ → K) (m : ℕ)
      → ((i : ℕ) → i < n → α i ≡ a → ⊥)
      → Differs a (points n α m)
  differs_points a zero α m h = tt
  differs_points a (suc n) α m h = (
    λ e. h 0 (omega arith) (sym e),
    differs_points a n (tail α) m (λ i k. h (suc i) (omega arith)),
  )

  -- separate members are distinct points
  pub distinct_points : (n : ℕ) (α : ℕ → K) (m : ℕ) → Separate n α → Distinct (points n α m)
  distinct_points zero α m s = tt
  distinct_points (suc n) α m s = (
    differs_points (α 0) n (tail α) m (separate_first n α s),
    distinct_points n (tail α) m (separate_tail n α s),
  )

module _ {K : Type 0} (R : CommRing K) where
  open R use {zero as 𝟘, one as 𝟙, add as ◌+◌, mul as ◌*◌, neg as -◌}
  open series R use {zero as 𝟎, one as 𝟏, add as ◌⊕◌, mul as ◌⊗◌, neg as ⊖◌}

  infixl 65 ◌+◌
  infixl 70 ◌*◌
  infix 75 -◌
  infixl 65 ◌⊕◌
  infixl 70 ◌⊗◌
  infix 75 ⊖◌
  pub orders_points : (n : ℕ) (α : ℕ → K) (m d : ℕ) (f : Series K)
      → ((i : ℕ) → i < n → Order R (α i) m d f)
      → Orders R (points n α m) d f
  orders_points zero α m d f o = tt
  orders_points (suc n) α m d f o = (
    o 0 (omega arith),
    orders_points n (tail α) m d f (λ i h. o (suc i) (omega arith)),
  )

  -- the product of the (x − α i)^m is the m-th power of the product
  pub locator_points : (n : ℕ) (α : ℕ → K) (m : ℕ) → locator R (points n α m) ≡ power (series R) (nodal R n α) m
  locator_points zero α m = sym (power_one (series R) m)
  locator_points (suc n) α m =
      ap (λ g. power (series R) (x_minus R (α 0)) m ⊗ g) (locator_points n (tail α) m)
      ∙ sym (power_mul (series R) (x_minus R (α 0)) (nodal R n (tail α)) m)

  pub below_nodal : (n : ℕ) (α : ℕ → K) → Below R (suc n) (nodal R n α)
  below_nodal zero α = below_one R
  below_nodal (suc n) α = below_x_minus_mul R (α 0) (below_nodal n (tail α))

  -- it is zero at each α i
  pub eval_nodal : (n : ℕ) (α : ℕ → K) (i : ℕ) → i < n → eval R (suc n) (nodal R n α) (α i) ≡ 𝟘
  eval_nodal zero α i h = absurd (omega arith)
  eval_nodal (suc n) α zero h =
      eval_x_minus_mul R (suc n) (α 0) (nodal R n (tail α)) (α 0) (below_nodal n (tail α))
      ∙ ap (λ x. x * eval R (suc n) (nodal R n (tail α)) (α 0)) (R.add_neg (α 0))
      ∙ zero_mul R _
  eval_nodal (suc n) α (suc i) h =
      eval_x_minus_mul R (suc n) (α 0) (nodal R n (tail α)) (α (suc i)) (below_nodal n (tail α))
      ∙ ap (λ x. (α (suc i) + - α 0) * x) (eval_nodal n (tail α) i (omega arith))
      ∙ mul_zero R _

  order_nodal : (n : ℕ) (α : ℕ → K) (i : ℕ) → i < n → Order R (α i) 1 (suc n) (nodal R n α)
  order_nodal n α i h zero k = taylor_at_zero R (suc n) (nodal R n α) (α i) ∙ eval_nodal n α i h
  order_nodal n α i h (suc r) k = absurd (omega arith)

  -- its m-th power vanishes at each α i to order m
  pub order_nodal_power : (n : ℕ) (α : ℕ → K) (i m : ℕ)
      → i < n
      → (d : ℕ) × Below R d (power (series R) (nodal R n α) m) × Order R (α i) m d (power (series R) (nodal R n α) m)
  order_nodal_power n α i zero h = (1, below_one R, λ r k. absurd (omega arith))
  order_nodal_power n α i (suc m) h =
      let q = order_nodal_power n α i m h in
      (Nat.◌+◌ n q.0, below_mul R (omega arith) (below_nodal n α) q.1, order_step q)
    where
      A : Series K
      A = nodal R n α

      order_step : (q : (d : ℕ) × Below R d (power (series R) (nodal R n α) m) × Order R (α i) m d (power (series R) (nodal R n α) m))
          → Order R (α i) (suc m) (Nat.◌+◌ n q.0) (nodal R n α ⊗ power (series R) (nodal R n α) m)
      order_step q r k =
          order_mul
          R
          (α i)
          1
          m
          (Nat.◌+◌ n q.0)
          (suc n)
          q.0
          A
          (power (series R) A m)
          (omega arith)
          (below_nodal n α)
          q.1
          (order_nodal n α i h)
          q.2
          r
          (omega arith)
