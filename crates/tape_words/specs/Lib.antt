pub mod Cuts
pub mod Seeds
