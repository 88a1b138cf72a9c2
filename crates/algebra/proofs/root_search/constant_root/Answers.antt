use Rattle.algebra.proofs.root_search.constant_root.Goals as goal
use Rattle.algebra.proofs.RootTheorems.{constant_roots}

-- the last coefficient
pub returns : goal.returns
returns c = constant_roots
