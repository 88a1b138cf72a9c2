pub mod Gathered
pub mod Interleaved
pub mod Judging
pub mod Squaring
pub mod Making
mod Inverses
