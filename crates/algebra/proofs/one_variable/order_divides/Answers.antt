-- The theorem over any field, at the elements.
use Rattle.algebra.specs.Elements.{element_ring}
use Rattle.algebra.proofs.Order.{order_divide}
use Rattle.algebra.proofs.one_variable.order_divides.Goals as goal

pub returns : goal.returns
returns c = λ o law. order_divide (element_ring o law)
