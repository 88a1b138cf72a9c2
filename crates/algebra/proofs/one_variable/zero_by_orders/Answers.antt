-- The theorem over any field, at the elements.
use Rattle.algebra.specs.Elements.{elements}
use Rattle.algebra.proofs.Zeros.{zero_by_orders}
use Rattle.algebra.proofs.one_variable.zero_by_orders.Goals as goal

pub returns : goal.returns
returns c = λ o law. zero_by_orders (elements o law)
