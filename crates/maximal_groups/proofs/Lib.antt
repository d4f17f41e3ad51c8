pub mod Largest
pub mod NumberFilters
pub mod FoundGroups
pub mod Lists
