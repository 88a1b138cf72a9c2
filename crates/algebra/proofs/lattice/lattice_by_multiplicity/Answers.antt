use Rattle.algebra.proofs.lattice.lattice_by_multiplicity.Goals as goal
use Rattle.algebra.proofs.LatticeTheorem.{lattice_by_multiplicity}

-- the lattice and the multiplicities
pub returns : goal.returns
returns c = lattice_by_multiplicity
