pub mod Names
pub mod Owners
pub mod Products
pub mod Forms
pub mod Faults
pub mod Answers
pub mod Jobs
pub mod ToldFaults
