pub mod Schemes
pub mod Prepared
pub mod Duties
