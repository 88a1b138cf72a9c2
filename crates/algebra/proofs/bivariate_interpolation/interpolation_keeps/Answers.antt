-- The theorem over any field, at the elements.
use Rattle.algebra.specs.Elements.{elements}
use Rattle.algebra.proofs.KoetterStep.{step_keeps}
use Rattle.algebra.proofs.bivariate_interpolation.interpolation_keeps.Goals as goal

pub returns : goal.returns
returns c = λ o law. step_keeps (elements o law)
