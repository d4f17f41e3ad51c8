pub mod Asks
pub mod CarriedValues
pub mod Equal
pub mod FileEnds
pub mod JobFiles
pub mod Logs
pub mod Loops
pub mod Steps
