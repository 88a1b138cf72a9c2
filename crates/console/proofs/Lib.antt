pub mod LinedText
pub mod SpacedText
pub mod WordsOut
pub mod Refusals
