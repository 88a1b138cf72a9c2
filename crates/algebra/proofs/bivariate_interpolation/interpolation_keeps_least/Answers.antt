-- The theorem over any field, at the elements.
use Rattle.algebra.specs.Elements.{elements}
use Rattle.algebra.proofs.KoetterLeast.{step_least}
use Rattle.algebra.proofs.bivariate_interpolation.interpolation_keeps_least.Goals as goal

pub returns : goal.returns
returns c = λ o law. step_least (elements o law)
