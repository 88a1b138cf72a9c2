use Rattle.algebra.proofs.root_search.division_by_x.Goals as goal
use Rattle.algebra.proofs.RootTheorems.{division_by_x}

-- one division by x
pub returns : goal.returns
returns c = division_by_x
