pub mod Arithmetic
pub mod Polynomials
pub mod Newton
pub mod Interpolation
