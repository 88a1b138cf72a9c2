-- Facts, Order and Sound are for the layers above too.
pub mod Facts
pub mod Order
pub mod Sound
