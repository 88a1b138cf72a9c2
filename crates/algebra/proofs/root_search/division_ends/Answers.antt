use Rattle.algebra.proofs.root_search.division_ends.Goals as goal
use Rattle.algebra.proofs.RootTheorems.{division_ends}

-- the divisions by x end
pub returns : goal.returns
returns c = division_ends
