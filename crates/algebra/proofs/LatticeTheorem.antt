-- The theorem of the lattice over a field, and over every lawful finite field.
use mathlib.Core.Path.{◌≡◌}
use mathlib.Core.Logic.{◌↔◌}
use Prim.Native.Nat.{ℕ, ◌<◌}
use Rattle.algebra.specs.Ring.{CommRing, Field}
use Rattle.algebra.specs.Elements.{elements}
use Rattle.algebra.specs.Series.{Series, series}
use Rattle.algebra.specs.Degree.{Below}
use Rattle.algebra.specs.Evaluation.{eval}
use Rattle.algebra.specs.Interpolation.{Separate}
use Rattle.algebra.specs.Bivariate.{Bivariate}
use Rattle.algebra.specs.Lattice.{nodal, InLattice, VanishesAt}
use Rattle.algebra.specs.LatticeTheorems.{LatticeByMultiplicity}
use Rattle.algebra.proofs.LatticeVanishes.{lattice_vanishes}
use Rattle.algebra.proofs.LatticeMembership.{in_lattice}

module _ {K : Type 0} (F : Field K) where
  abbrev R : CommRing K
  R = F.ring

  -- being in the lattice and vanishing at the points with multiplicity k are the same
  pub lattice_iff : (n k d l : ℕ) (α β : ℕ → K) (V : Series K) (Q : Bivariate K)
      → Separate n α
      → Below R n V
      → ((i : ℕ) → i < n → eval R n V (α i) ≡ β i)
      → ((c : ℕ) → Below R d (Q c))
      → Below (series R) l Q
      → InLattice R (nodal R n α) V k l Q ↔ VanishesAt R n α β k d l Q
  lattice_iff n k d l α β V Q s bV e b y =
      (lattice_vanishes R n α β V k d l Q bV e b, in_lattice F n α β V (s, bV, e) k l d Q y b)

pub lattice_by_multiplicity : LatticeByMultiplicity
lattice_by_multiplicity o law = lattice_iff (elements o law)
