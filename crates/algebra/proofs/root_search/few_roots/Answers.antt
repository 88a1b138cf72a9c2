use Rattle.algebra.proofs.root_search.few_roots.Goals as goal
use Rattle.algebra.proofs.RootTheorems.{fewer_roots}

-- fewer roots than the bound of the degree in y
pub returns : goal.returns
returns c = fewer_roots
