pub mod Promises
pub mod Pools
pub mod Runs
