use Rattle.algebra.proofs.root_search.root_step.Goals as goal
use Rattle.algebra.proofs.RootTheorems.{step_of_roots}

-- the step of the search
pub returns : goal.returns
returns c = step_of_roots
