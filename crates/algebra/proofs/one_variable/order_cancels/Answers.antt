-- The theorem over any field, at the elements.
use Rattle.algebra.specs.Elements.{elements}
use Rattle.algebra.proofs.Order.{order_cancel}
use Rattle.algebra.proofs.one_variable.order_cancels.Goals as goal

pub returns : goal.returns
returns c = λ o law. order_cancel (elements o law)
