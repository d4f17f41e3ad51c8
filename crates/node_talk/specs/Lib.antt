pub mod Talks
pub mod PeerLinks
pub mod Causes
pub mod Runs
