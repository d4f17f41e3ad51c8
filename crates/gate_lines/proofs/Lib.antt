pub mod TextLines
pub mod Places
pub mod Digits
