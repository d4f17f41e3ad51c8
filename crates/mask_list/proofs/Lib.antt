mod RisingMasks
pub mod AddedMasks
