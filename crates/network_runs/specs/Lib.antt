pub mod Played
pub mod Wires
