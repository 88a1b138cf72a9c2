-- The theorem over any ring, at the elements.
use Rattle.algebra.specs.Elements.{element_ring}
use Rattle.algebra.proofs.Multiplicity.{order_substitute}
use Rattle.algebra.proofs.agreement.order_of_substitution.Goals as goal

pub returns : goal.returns
returns c = λ o law. order_substitute (element_ring o law)
