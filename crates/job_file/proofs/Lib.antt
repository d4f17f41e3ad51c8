pub mod Lists
pub mod Hosts
pub mod Readers
pub mod Ports
pub mod GrownLists
pub mod Rows
pub mod Owners
pub mod Sessions
