pub mod ToldFaults
pub mod Counts
