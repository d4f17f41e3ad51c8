pub mod Sessions
pub mod KeptWires
pub mod SoundSessions
pub mod SlotNumbers
pub mod Counts
pub mod Carries
pub mod EarlyWires
pub mod Wirings
