pub mod GroupTexts
pub mod Masks
pub mod ToldFaults
