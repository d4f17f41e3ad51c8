pub mod DocumentLaws
pub mod Lists
pub mod UnknownNames
