pub mod Combinations
pub mod Flat
pub mod Horner
pub mod Lifted
pub mod Roots
