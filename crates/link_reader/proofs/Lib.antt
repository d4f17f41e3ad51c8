pub mod RowsOfFrames
pub mod ToldCauses
pub mod Runs
pub mod BrokenOffRuns
pub mod ExpectedMessages
pub mod ShutInlets
pub mod NoMore
pub mod Tokens
