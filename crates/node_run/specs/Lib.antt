pub mod Mail
pub mod Progress
pub mod Turns
pub mod Remains
pub mod NodeRuns
pub mod Ready
