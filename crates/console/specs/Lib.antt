pub mod Kinds
pub mod Spaced
pub mod States
pub mod Text
