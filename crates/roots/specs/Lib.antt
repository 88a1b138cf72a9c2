pub mod Found
pub mod Search
