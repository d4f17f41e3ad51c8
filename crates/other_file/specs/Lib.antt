pub mod Faults
pub mod ToldFaults
pub mod Table
