-- Every polynomial of the lattice vanishes at the points with the multiplicity of the lattice.
use mathlib.Core.Path.{◌≡◌, sym, ◌∙◌, ap, subst}
use Prim.Native.Nat.{ℕ, zero, suc, ◌<◌}
use Prim.Native.Nat
use native.Mathlib.Omega.{arith}
use Rattle.algebra.specs.Ring.{CommRing}
use Rattle.algebra.specs.Series.{Series, X, x_minus, series}
use Rattle.algebra.proofs.Coefficients.{one_constant, constant_at_zero, constant_at_suc}
use Rattle.algebra.proofs.Linear.{XAtZero, XAtOne, XAtSucSuc}
use Rattle.algebra.specs.Degree.{Below}
use Rattle.algebra.specs.Evaluation.{eval}
use Rattle.algebra.specs.Sum.{power}
use Rattle.algebra.specs.Bivariate.{Bivariate, scale, y_power}
use Rattle.algebra.specs.Lattice.{nodal, generator, InLattice, VanishesAt}
use Rattle.algebra.proofs.Degree.{below_zero, below_one, below_weaken, below_X, below_x_minus}
use Rattle.algebra.proofs.Evaluation.{eval_bound}
use Rattle.algebra.proofs.LinearFactor.{below_y_minus, multiplicity_y_minus}
use Rattle.algebra.proofs.Nodal.{order_nodal_power}
use Rattle.algebra.proofs.Generators.{generator_none, generator_zero, generator_suc}
use Rattle.algebra.proofs.Vanishing.{Meets, meets_at, meets_weaken, meets_scale, meets_order, meets_mul, meets_sum}

module _ {K : Type 0} (R : CommRing K) where
  open series R use {zero as 𝟎, one as 𝟏}
  open series (series R) use {one as 𝟙, mul as ◌⊠◌}

  infixl 70 ◌⊠◌
  below_one_x : (c : ℕ) → Below R 1 (𝟙 c)
  below_one_x zero =
      subst (Below R 1) (sym (ap (λ P. P 0) (one_constant (series R)) ∙ constant_at_zero (series R) 𝟏)) (below_one R)
  below_one_x (suc c) =
      subst (Below R 1) (sym (ap (λ P. P (suc c)) (one_constant (series R)) ∙ constant_at_suc (series R) 𝟏 c)) (below_zero R 1)

  below_y_x : (c : ℕ) → Below R 1 (X (series R) c)
  below_y_x zero = subst (Below R 1) (sym (XAtZero (series R))) (below_zero R 1)
  below_y_x (suc zero) = subst (Below R 1) (sym (XAtOne (series R))) (below_one R)
  below_y_x (suc (suc c)) = subst (Below R 1) (sym (XAtSucSuc (series R) c)) (below_zero R 1)

  module _ (a b : K) where
    pub meets_one : Meets R a b 0 1 𝟙
    meets_one = (1, below_one_x, below_one (series R), λ u r h. absurd (omega arith))

    meets_y : Meets R a b 0 2 (X (series R))
    meets_y = (1, below_y_x, below_X (series R), λ u r h. absurd (omega arith))

    pub meets_y_power : (i : ℕ) → Meets R a b 0 (suc i) (y_power R i)
    meets_y_power zero = meets_one
    meets_y_power (suc i) = meets_mul R a b (suc (suc i)) (omega arith) meets_y (meets_y_power i)

    meets_y_minus : (n : ℕ) (V : Series K) → Below R n V → eval R n V a ≡ b → Meets R a b 1 2 (x_minus (series R) V)
    meets_y_minus n V bV e = (
      suc n,
      below_y_minus R n V (below_weaken R (omega arith) bV),
      below_x_minus (series R) V,
      multiplicity_y_minus R n V a b (eval_bound R n (suc n) V a bV (omega arith) ∙ e),
    )

    -- each generator has the multiplicity, where A^m has order m at a for each m
    meets_generator : (A V : Series K)
        → Meets R a b 1 2 (x_minus (series R) V)
        → ((m : ℕ) → Meets R a b m 1 (scale R (power (series R) A m) 𝟙))
        → (k i : ℕ)
        → Meets R a b k (suc i) (generator R A V k i)
    meets_generator A V y o zero i = subst (Meets R a b 0 (suc i)) (sym (generator_none R A V i)) (meets_y_power i)
    meets_generator A V y o (suc k) zero =
        subst (Meets R a b (suc k) 1) (sym (generator_zero R A V (suc k))) (o (suc k))
    meets_generator A V y o (suc k) (suc i) =
        let e : Nat.◌+◌ 1 k ≡ suc k = omega arith in
        subst
        (Meets R a b (suc k) (suc (suc i)))
        (sym (generator_suc R A V k i))
        (subst
        (λ m. Meets R a b m (suc (suc i)) (x_minus (series R) V ⊠ generator R A V k i))
        e
        (meets_mul R a b (suc (suc i)) (omega arith) y (meets_generator A V y o k i)))

  -- what is in the lattice has multiplicity k at (α j, V(α j))
  pub lattice_meets : (n : ℕ) (α : ℕ → K) (V : Series K) (k l : ℕ) (Q : Bivariate K) (j : ℕ) (b : K)
      → Below R n V
      → j < n
      → eval R n V (α j) ≡ b
      → InLattice R (nodal R n α) V k l Q
      → Meets R (α j) b k l Q
  lattice_meets n α V k l Q j b bV h e q =
      subst
      (Meets R (α j) b k l)
      (sym q.3)
      (meets_sum
      R
      (α j)
      b
      l
      (λ i. scale R (q.1 i) (generator R (nodal R n α) V k i))
      (λ i t.
      meets_scale
      R
      (α j)
      b
      q.0
      (q.1 i)
      (q.2 i t)
      (meets_weaken R (α j) b (omega arith) (meets_generator (α j) b (nodal R n α) V (meets_y_minus (α j) b n V bV e) powers k i))))
    where
      powers : (m : ℕ) → Meets R (α j) b m 1 (scale R (power (series R) (nodal R n α) m) 𝟙)
      powers m =
          let p = order_nodal_power R n α j m h in
          meets_order R (α j) b m p.0 (power (series R) (nodal R n α) m) p.1 p.2 (meets_one (α j) b)

  -- the multiplicities at all points, for any bound of the degree in x
  pub lattice_vanishes : (n : ℕ) (α β : ℕ → K) (V : Series K) (k d l : ℕ) (Q : Bivariate K)
      → Below R n V
      → ((i : ℕ) → i < n → eval R n V (α i) ≡ β i)
      → ((c : ℕ) → Below R d (Q c))
      → InLattice R (nodal R n α) V k l Q
      → VanishesAt R n α β k d l Q
  lattice_vanishes n α β V k d l Q bV e bQ q j h =
      meets_at R (α j) (β j) d bQ (lattice_meets n α V k l Q j (β j) bV h (e j h) q)
