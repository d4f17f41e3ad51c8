pub mod PairSums
pub mod JoinedWords
