pub mod Codes
pub mod Decoding
pub mod Faults
pub mod Extension
pub mod Listing
