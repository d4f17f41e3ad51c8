pub mod Programs
pub mod States
pub mod Along
pub mod Proper
pub mod GivenData
