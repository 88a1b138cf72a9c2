-- There is a run of steps from the powers of y.
use Rattle.algebra.specs.Elements.{elements}
use Rattle.algebra.proofs.KoetterExists.{interpolation_exists}
use Rattle.algebra.proofs.bivariate_interpolation.interpolation_exists.Goals as goal

pub returns : goal.returns
returns c = λ o law. interpolation_exists (elements o law)
