pub mod NeededQ2
