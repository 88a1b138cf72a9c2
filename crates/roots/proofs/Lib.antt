pub mod Finding
pub mod Lifting
pub mod Numbers
pub mod Words
