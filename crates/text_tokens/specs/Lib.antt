pub mod Tokens
pub mod Numbers
pub mod RunTokens
pub mod FirstFaults
