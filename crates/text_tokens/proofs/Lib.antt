pub mod FirstTokens
pub mod Values
pub mod Decimals
pub mod NextTokens
pub mod FirstFaults
pub mod AsciiRuns
