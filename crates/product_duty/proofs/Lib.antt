pub mod JoinedLists
pub mod PairDuties
