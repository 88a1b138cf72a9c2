use Rattle.algebra.proofs.agreement.complete.Goals as goal
use Rattle.algebra.specs.Elements.{elements}
use Rattle.algebra.proofs.Completeness.{complete}

-- completeness
pub returns : goal.returns
returns c = λ o law. complete (elements o law)
