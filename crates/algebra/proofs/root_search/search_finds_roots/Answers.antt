use Rattle.algebra.proofs.root_search.search_finds_roots.Goals as goal
use Rattle.algebra.proofs.RootTheorems.{search_finds_roots}

-- the whole search
pub returns : goal.returns
returns c = search_finds_roots
