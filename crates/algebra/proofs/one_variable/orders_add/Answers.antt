-- The theorem over any field, at the elements.
use Rattle.algebra.specs.Elements.{element_ring}
use Rattle.algebra.proofs.Order.{order_add, order_multiple, order_mul}
use Rattle.algebra.proofs.one_variable.orders_add.Goals as goal

pub returns : goal.returns
returns _ = λ o law a m n c d e f g h b b' p.
    let R = element_ring o law in
    (λ q. order_add R a m d f g p q, λ k. order_multiple R a m d k f p, λ q. order_mul R a m n c d e f g h b b' p q)
