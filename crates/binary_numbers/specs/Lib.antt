pub mod Numbers
pub mod Carries
pub mod Quotients
