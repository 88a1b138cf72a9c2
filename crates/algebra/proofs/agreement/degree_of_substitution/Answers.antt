-- The theorem over any ring, at the elements.
use Rattle.algebra.specs.Elements.{element_ring}
use Rattle.algebra.proofs.Bivariate.{below_substitute}
use Rattle.algebra.proofs.agreement.degree_of_substitution.Goals as goal

pub returns : goal.returns
returns c = λ o law. below_substitute (element_ring o law)
