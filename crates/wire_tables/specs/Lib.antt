pub mod WireTables
pub mod HandedOn
pub mod Places
pub mod Steps
pub mod SlotRows
