pub mod Bases
pub mod Pivots
pub mod Rows
pub mod Runs
pub mod States
