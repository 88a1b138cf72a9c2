pub mod Elementary
pub mod NewtonForm
pub mod Uniqueness
pub mod Scaling
pub mod Horner
