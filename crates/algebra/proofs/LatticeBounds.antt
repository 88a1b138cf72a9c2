-- A polynomial of the lattice has degree below l in y, and some bound of its degree in x.
use mathlib.Core.Path.{sym, subst}
use Prim.Native.Nat.{ℕ, zero, suc}
use Prim.Native.Nat
use native.Mathlib.Omega.{arith}
use Rattle.algebra.specs.Ring.{CommRing}
use Rattle.algebra.specs.Series.{Series, x_minus, series}
use Rattle.algebra.specs.Degree.{Below}
use Rattle.algebra.specs.Sum.{power}
use Rattle.algebra.specs.Bivariate.{Bivariate, scale}
use Rattle.algebra.specs.Lattice.{generator, InLattice}
use Rattle.algebra.proofs.Degree.{below_one, below_weaken, below_mul, below_x_minus}
use Rattle.algebra.proofs.LinearFactor.{below_y_minus}
use Rattle.algebra.proofs.Generators.{generator_none, generator_zero, generator_suc}
use Rattle.algebra.proofs.Vanishing.{Meets, meets_weaken, meets_scale, meets_mul, meets_sum}
use Rattle.algebra.proofs.LatticeVanishes.{meets_one, meets_y_power}

module _ {K : Type 0} (R : CommRing K) where
  below_some_power : (d : ℕ) (A : Series K) → Below R d A → (m : ℕ) → (e : ℕ) × Below R e (power (series R) A m)
  below_some_power d A b zero = (1, below_one R)
  below_some_power d A b (suc m) =
      let q = below_some_power d A b m in (Nat.◌+◌ d q.0, below_mul R (omega arith) b q.1)

  -- multiplicity 0 at any point is a statement about degrees alone
  module _ (a b : K) (d n : ℕ) (A V : Series K) (bA : Below R d A) (bV : Below R n V) where
    bounded_generator : (k i : ℕ) → Meets R a b 0 (suc i) (generator R A V k i)
    bounded_generator zero i = subst (Meets R a b 0 (suc i)) (sym (generator_none R A V i)) (meets_y_power R a b i)
    bounded_generator (suc k) zero =
        let q = below_some_power d A bA (suc k) in
        subst
        (Meets R a b 0 1)
        (sym (generator_zero R A V (suc k)))
        (meets_scale R a b q.0 (power (series R) A (suc k)) q.1 (meets_one R a b))
    bounded_generator (suc k) (suc i) =
        subst
        (Meets R a b 0 (suc (suc i)))
        (sym (generator_suc R A V k i))
        (meets_mul R a b (suc (suc i)) (omega arith) y_minus (bounded_generator k i))
      where
        y_minus : Meets R a b 0 2 (x_minus (series R) V)
        y_minus = (suc n, below_y_minus R n V (below_weaken R (omega arith) bV), below_x_minus (series R) V, λ u r h. absurd (omega arith))

  pub lattice_bounds : (d n : ℕ) (A V : Series K) (k l : ℕ) (Q : Bivariate K)
      → Below R d A
      → Below R n V
      → InLattice R A V k l Q
      → (e : ℕ) × ((c : ℕ) → Below R e (Q c)) × Below (series R) l Q
  lattice_bounds d n A V k l Q bA bV q =
      let o : K = R.zero in
      let t
      = subst
      (Meets R o o 0 l)
      (sym q.3)
      (meets_sum
      R
      o
      o
      l
      (λ i. scale R (q.1 i) (generator R A V k i))
      (λ i h.
      meets_scale
      R
      o
      o
      q.0
      (q.1 i)
      (q.2 i h)
      (meets_weaken R o o (omega arith) (bounded_generator o o d n A V bA bV k i)))) in
      (t.0, t.1, t.2)
