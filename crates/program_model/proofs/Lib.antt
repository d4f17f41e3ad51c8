pub mod BegunBatches
pub mod InstructionLists
pub mod StateReads
pub mod RisingTakes
pub mod DifferentTakes
pub mod ShortPrograms
