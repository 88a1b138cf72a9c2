pub mod BasisLists
pub mod Filling
pub mod LeastRow
pub mod LiftedRun
pub mod LiftedStep
pub mod Reducing
pub mod Scanning
