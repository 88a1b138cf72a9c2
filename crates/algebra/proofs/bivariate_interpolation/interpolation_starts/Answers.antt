-- The head of y^j stands at y^j.
use Rattle.algebra.specs.Elements.{elements}
use Rattle.algebra.proofs.KoetterStart.{start_invariant, start_least}
use Rattle.algebra.proofs.bivariate_interpolation.interpolation_starts.Goals as goal

pub returns : goal.returns
returns c = λ o law s D l st h. (start_invariant (elements o law) s D l st h, start_least (elements o law) s D l st h)
