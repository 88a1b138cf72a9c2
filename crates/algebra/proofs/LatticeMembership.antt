-- A polynomial that vanishes at the points with multiplicity k is in the lattice.
use mathlib.Core.Path.{sym, ◌∙◌, ap}
use Prim.Native.Nat.{ℕ, zero, suc}
use Prim.Native.Nat
use Rattle.algebra.specs.Ring.{CommRing, Field}
use Rattle.algebra.specs.Series.{Series, series}
use Rattle.algebra.specs.Degree.{Below}
use Rattle.algebra.specs.Bivariate.{Bivariate, Weighted, scale, y_power}
use Rattle.algebra.specs.Lattice.{nodal, generator, InLattice, VanishesAt}
use Rattle.algebra.proofs.Degree.{zero_of_below, below_zero}
use Rattle.algebra.proofs.Quotient.{below_quotient}
use Rattle.algebra.proofs.Sum.{sum_cong}
use Rattle.algebra.proofs.Bivariate.{below_weighted}
use Rattle.algebra.proofs.Generators.{generator_none, terms_in_y}
use Rattle.algebra.proofs.MultiplicityBounds.{multiplicity_bound}
use Rattle.algebra.proofs.DivisionBounds.{weighted_box}
use Rattle.algebra.proofs.LatticeStep.{Given, quot, below_quot, quot_vanishes, extend}

module _ {K : Type 0} (F : Field K) (n : ℕ) (α β : ℕ → K) (V : Series K) where
  abbrev R : CommRing K
  R = F.ring

  abbrev A : Series K
  A = nodal R n α

  -- what vanishes at the points with multiplicity k is in the lattice
  pub in_lattice : Given F n α β V
      → (k l d : ℕ) (Q : Bivariate K)
      → Below (series R) l Q
      → ((c : ℕ) → Below R d (Q c))
      → VanishesAt R n α β k d l Q
      → InLattice R A V k l Q
  in_lattice given zero l d Q y b v = (
    d,
    Q,
    λ i h. b i,
    terms_in_y R l Q y
        ∙ sum_cong
        (series (series R))
        l
        (λ i. scale R (Q i) (y_power R i))
        (λ i. scale R (Q i) (generator R A V 0 i))
        (λ i h. ap (scale R (Q i)) (sym (generator_none R A V i))),
  )
  in_lattice given (suc k) zero d Q y b v = (0, λ i. (series R).zero, λ i h. below_zero R 0, zero_of_below (series R) Q y)
  in_lattice given (suc k) (suc l) d Q y b v =
      let D : ℕ = Nat.◌+◌ d (Nat.◌*◌ n (suc l)) in
      let w : Weighted R n D Q = weighted_box R n d (suc l) Q b y in
      let u : VanishesAt R n α β (suc k) D (suc l) Q
      = λ j h. multiplicity_bound R (α j) (β j) (suc k) d D (suc l) Q b (below_weighted R n D Q w) (v j h) in
      extend
      F
      n
      α
      β
      V
      given
      k
      l
      D
      Q
      w
      y
      u
      (in_lattice
      given
      k
      l
      D
      (quot F n α β V given k l D Q w y u)
      (below_quotient (series R) l Q V)
      (below_quot F n α β V given k l D Q w y u)
      (quot_vanishes F n α β V given k l D Q w y u))
