-- The theorem over any field, at the elements.
use Rattle.algebra.specs.Elements.{element_ring}
use Rattle.algebra.proofs.Order.{derivative_mul}
use Rattle.algebra.proofs.one_variable.derivative_of_product.Goals as goal

pub returns : goal.returns
returns c = λ o law. derivative_mul (element_ring o law)
