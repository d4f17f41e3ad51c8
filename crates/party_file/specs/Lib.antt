pub mod ToldFaults
pub mod Table
pub mod Forms
pub mod GivenNumbers
