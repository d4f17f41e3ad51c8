pub mod Circuits
pub mod ToldFaults
pub mod Checks
pub mod Netlists
pub mod DraftSteps
pub mod Drafts
pub mod Equations
