pub mod Samples
pub mod Drafts
pub mod Worked
