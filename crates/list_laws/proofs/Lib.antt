pub mod Totals
pub mod Greatest
pub mod JoinedLists
pub mod ShortLists
pub mod PushedLists
pub mod FirstFaults
pub mod Tests
