pub mod Wakers
pub mod Expected
pub mod Heard
pub mod ReadWords
pub mod NodeReaders
