pub mod Numbers
pub mod Faults
pub mod Checks
pub mod Plans
