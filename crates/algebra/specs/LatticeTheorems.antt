-- The lattice and the multiplicities, over every lawful finite field.
use Rattle.std.specs.Prelude.{◌≡◌, ◌↔◌, ℕ, ◌<◌}
use Rattle.algebra.specs.Operations.{Operations, Lawful}
use Rattle.algebra.specs.Elements.{Elem, element_ring}
use Rattle.algebra.specs.Series.{Series, series}
use Rattle.algebra.specs.Degree.{Below}
use Rattle.algebra.specs.Evaluation.{eval}
use Rattle.algebra.specs.Interpolation.{Separate}
use Rattle.algebra.specs.Bivariate.{Bivariate}
use Rattle.algebra.specs.Lattice.{nodal, InLattice, VanishesAt}

-- for distinct α i and V of degree below n with V(α i) = β i, i < n: a polynomial of degree below d in x and below l in y is in the
-- lattice of the multiplicity k exactly if it vanishes with multiplicity k at each (α i, β i)
abbrev pub LatticeByMultiplicity : Type 0
LatticeByMultiplicity =
    (o : Operations) (law : Lawful o) (n k d l : ℕ) (α β : ℕ → Elem o) (V : Series (Elem o)) (Q : Bivariate (Elem o))
    → Separate n α
    → Below (element_ring o law) n V
    → ((i : ℕ) → i < n → eval (element_ring o law) n V (α i) ≡ β i)
    → ((c : ℕ) → Below (element_ring o law) d (Q c))
    → Below (series (element_ring o law)) l Q
    → InLattice (element_ring o law) (nodal (element_ring o law) n α) V k l Q
    ↔ VanishesAt (element_ring o law) n α β k d l Q
