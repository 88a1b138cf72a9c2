pub mod FirstDigits
pub mod Powers
pub mod DigitSteps
