mod Boxes
pub mod Counts
pub mod RunEnds
pub mod BoardSteps
pub mod RunDesks
pub mod PostedPairs
pub mod DeskLists
pub mod SeatLists
pub mod WalkedGates
