pub mod RingTotals
pub mod SummandSums
pub mod Agreement
pub mod PreparedSums
pub mod PairDuties
