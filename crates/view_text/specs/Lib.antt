pub mod ViewText
pub mod Seen
pub mod OutLines
