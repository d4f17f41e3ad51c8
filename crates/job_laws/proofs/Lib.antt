mod MemberNames
mod OwnerTexts
mod DocumentShapes
mod DocumentFields
mod DocumentRows
pub mod ReadJobs
