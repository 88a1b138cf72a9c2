-- The lattice of the polynomials in x and y that vanish at given points, by its generators.
use Rattle.std.specs.Prelude.{◌≡◌, ℕ, zero, suc, ◌-◌, ◌<◌}
use Rattle.std.proofs.Math.Decide.{dec_le}
use Rattle.algebra.specs.Ring.{CommRing}
use Rattle.algebra.specs.Series.{Series, tail, x_minus, series}
use Rattle.algebra.specs.Degree.{Below}
use Rattle.algebra.specs.Sum.{sum, power}
use Rattle.algebra.specs.Bivariate.{Bivariate, scale, y_power, Multiplicity}

-- the product of x − α i over i < n
abbrev pub nodal : {K : Type 0} → CommRing K → ℕ → (ℕ → K) → Series K
nodal R zero α = (series R).one
nodal R (suc n) α = (series R).mul (x_minus R (α 0)) (nodal R n (tail α))

-- the power (y − V)^i
abbrev pub y_minus_power : {K : Type 0} → CommRing K → Series K → ℕ → Bivariate K
y_minus_power R V i = power (series (series R)) (x_minus (series R) V) i

-- generator i for the multiplicity k: A^(k − i) · (y − V)^i where i ≤ k, and (y − V)^k · y^(i − k) where k < i
abbrev pub generator : {K : Type 0} → CommRing K → Series K → Series K → ℕ → ℕ → Bivariate K
generator R A V k i =
    elim (dec_le i k) [
      | yes h ↦ scale R (power (series R) A (k - i)) (y_minus_power R V i)
      | no h ↦ (series (series R)).mul (y_minus_power R V k) (y_power R (i - k))
    ]

-- the sum of h i (x) · generator i over i < l
abbrev pub combination : {K : Type 0} → CommRing K → Series K → Series K → ℕ → ℕ → (ℕ → Series K) → Bivariate K
combination R A V k l h = sum (series (series R)) l (λ i. scale R (h i) (generator R A V k i))

-- Q is in the lattice: a combination of the first l generators with polynomials in x
abbrev pub InLattice : {K : Type 0} → CommRing K → Series K → Series K → ℕ → ℕ → Bivariate K → Type 0
InLattice {K} R A V k l Q =
    (e : ℕ) × (h : ℕ → Series K) × ((i : ℕ) → i < l → Below R e (h i)) × (Q ≡ combination R A V k l h)

-- Q, of degree below d in x and below l in y, vanishes with multiplicity k at each point (α i, β i), i < n
abbrev pub VanishesAt : {K : Type 0} → CommRing K → ℕ → (ℕ → K) → (ℕ → K) → ℕ → ℕ → ℕ → Bivariate K → Type 0
VanishesAt R n α β k d l Q = (i : ℕ) → i < n → Multiplicity R (α i) (β i) k d l Q
