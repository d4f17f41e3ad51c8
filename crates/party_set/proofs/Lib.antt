pub mod EveryNumber
pub mod Masks
