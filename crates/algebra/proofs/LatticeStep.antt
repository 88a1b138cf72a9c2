-- One division by y − V: the remainder is a multiple of A^k, and the quotient vanishes with one multiplicity less.
use mathlib.Core.Path.{◌≡◌, sym, ◌∙◌, ap, ap₂, subst}
use Prim.Native.Nat.{ℕ, zero, suc, ◌<◌}
use Prim.Native.Nat
use native.Mathlib.Omega.{arith}
use Rattle.algebra.specs.Ring.{CommRing, Field}
use Rattle.algebra.specs.Solver.{ring2, ◌:+◌, ◌:-◌, ◌:≡◌}
use Rattle.algebra.specs.Series.{Series, constant, x_minus, series}
use Rattle.algebra.proofs.Coefficients.{constant_neg}
use Rattle.algebra.specs.Degree.{Below}
use Rattle.algebra.specs.Evaluation.{eval, quotient}
use Rattle.algebra.specs.Sum.{power}
use Rattle.algebra.specs.Order.{Order}
use Rattle.algebra.specs.Interpolation.{Separate}
use Rattle.algebra.specs.Bivariate.{Bivariate, Weighted, scale, substitute}
use Rattle.algebra.specs.Lattice.{nodal, InLattice, VanishesAt}
use Rattle.algebra.proofs.Degree.{below_neg, below_weaken}
use Rattle.algebra.proofs.Evaluation.{eval_bound}
use Rattle.algebra.proofs.Order.{order_neg}
use Rattle.algebra.proofs.Quotient.{below_quotient, division}
use Rattle.algebra.proofs.Zeros.{divide_by_orders}
use Rattle.algebra.proofs.Bivariate.{below_weighted, below_substitute}
use Rattle.algebra.proofs.Multiplicity.{order_substitute}
use Rattle.algebra.proofs.LinearFactor.{below_y_minus, multiplicity_divide}
use Rattle.algebra.proofs.Nodal.{points, distinct_points, orders_points, locator_points}
use Rattle.algebra.proofs.Generators.{generator_zero, combination_suc, scale_scale, constant_as_scale}
use Rattle.algebra.proofs.MultiplicityBounds.{below_product}
use Rattle.algebra.proofs.Vanishing.{Meets, meets_at, meets_weaken, meets_add, meets_order}
use Rattle.algebra.proofs.LatticeVanishes.{meets_one}
use Rattle.algebra.proofs.DivisionBounds.{below_quotient_x, prepend, below_prepend}

module _ {K : Type 0} (F : Field K) (n : ℕ) (α β : ℕ → K) (V : Series K) where
  abbrev R : CommRing K
  R = F.ring

  open series R use {zero as 𝟎, one as 𝟏, add as ◌⊕◌, mul as ◌⊗◌, neg as ⊖◌}
  open series (series R) use {one as 𝟙, add as ◌⊞◌, mul as ◌⊠◌, neg as ⊟◌}

  infixl 65 ◌⊕◌
  infixl 70 ◌⊗◌
  infix 75 ⊖◌
  infixl 65 ◌⊞◌
  infixl 70 ◌⊠◌
  infix 75 ⊟◌
  abbrev A : Series K
  A = nodal R n α

  abbrev Y : Bivariate K
  Y = x_minus (series R) V

  -- what is known of the points and of V
  abbrev pub Given : Type 0
  Given = Separate n α × Below R n V × ((i : ℕ) → i < n → eval R n V (α i) ≡ β i)

  wide : Given → Below R (suc n) V
  wide t = below_weaken R (omega arith) t.1

  value : Given → (i : ℕ) → i < n → eval R (suc n) V (α i) ≡ β i
  value t i h = eval_bound R n (suc n) V (α i) t.1 (omega arith) ∙ t.2 i h

  module _
      (given : Given)
      (k l D : ℕ)
      (Q : Bivariate K)
      (w : Weighted R n D Q)
      (y : Below (series R) (suc l) Q)
      (v : VanishesAt R n α β (suc k) D (suc l) Q)
    where
      -- the remainder of Q by y − V
      abbrev rest : Series K
      rest = substitute R (suc l) Q V

      -- the quotient of Q by y − V
      abbrev pub quot : Bivariate K
      quot = quotient (series R) (suc l) Q V

      below_rest : Below R D rest
      below_rest = below_substitute R (suc l) n D Q V w (wide given)

      order_rest : (j : ℕ) → j < n → Order R (α j) (suc k) D rest
      order_rest j h = order_substitute R (α j) (β j) (suc k) (suc l) n D Q V w (wide given) (value given j h) (v j h)

      -- A^(k + 1) divides the remainder
      rest_divided : (g : Series K) × (rest ≡ power (series R) A (suc k) ⊗ g) × Below R D g
      rest_divided =
          let q
          = divide_by_orders
          F
          (points n α (suc k))
          D
          D
          rest
          (distinct_points n α (suc k) given.0)
          below_rest
          (orders_points R n α (suc k) D rest order_rest)
          (omega arith) in
          (q.0, q.1 ∙ ap (λ p. p ⊗ q.0) (locator_points R n α (suc k)), q.2)

      split : Q ≡ Y ⊠ quot ⊞ constant (series R) rest
      split = division (series R) (suc l) Q V y

      -- (y − V) · quotient is Q less the remainder
      product : Q ⊞ scale R (⊖ rest) 𝟙 ≡ Y ⊠ quot
      product =
          ap₂ ◌⊞◌ split (sym (constant_as_scale R (⊖ rest)) ∙ constant_neg (series R) rest)
          ∙ ring2 (series (series R)) (λ p c. (p :+ c) :- c :≡ p) tt (Y ⊠ quot) (constant (series R) rest)

      pub below_quot : (c : ℕ) → Below R D (quot c)
      below_quot = below_quotient_x R (suc l) n D Q V w (wide given)

      -- the quotient vanishes with one multiplicity less
      pub quot_vanishes : VanishesAt R n α β k D l quot
      quot_vanishes j h =
          multiplicity_divide
          R
          (α j)
          (β j)
          k
          (Nat.◌+◌ n D)
          D
          n
          (suc l)
          l
          V
          quot
          (omega arith)
          (omega arith)
          (wide given)
          below_quot
          (below_quotient (series R) l Q V)
          (value given j h)
          (meets_at
          R
          (α j)
          (β j)
          (Nat.◌+◌ n D)
          (below_product R (Nat.◌+◌ n D) (suc n) D Y quot (omega arith) (below_y_minus R n V (wide given)) below_quot)
          (subst
          (Meets R (α j) (β j) (suc k) (suc l))
          product
          (meets_add
          R
          (α j)
          (β j)
          (D, below_weighted R n D Q w, y, v j h)
          (meets_weaken
          R
          (α j)
          (β j)
          (omega arith)
          (meets_order R (α j) (β j) (suc k) D (⊖ rest) (below_neg R below_rest) (order_neg R (α j) (suc k) D rest (order_rest j h)) (meets_one R (α j) (β j)))))))

      -- a combination for the quotient gives one for Q
      pub extend : InLattice R A V k l quot → InLattice R A V (suc k) (suc l) Q
      extend q =
          let g = rest_divided in (
            Nat.◌+◌ D q.0,
            prepend R g.0 q.1,
            below_prepend R D q.0 l g.0 q.1 g.2 q.2,
            split
                ∙ (series (series R)).add_comm (Y ⊠ quot) (constant (series R) rest)
                ∙ ap₂
                ◌⊞◌
                (constant_as_scale R rest
                ∙ ap (λ f. scale R f 𝟙) (g.1 ∙ (series R).mul_comm (power (series R) A (suc k)) g.0)
                ∙ sym (scale_scale R g.0 (power (series R) A (suc k)) 𝟙)
                ∙ ap (scale R g.0) (sym (generator_zero R A V (suc k))))
                (ap (λ P. Y ⊠ P) q.3)
                ∙ sym (combination_suc R A V k l (prepend R g.0 q.1)),
          )
