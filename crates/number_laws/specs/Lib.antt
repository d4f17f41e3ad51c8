pub mod Making
pub mod Values
pub mod Reading
pub mod Costs
pub mod Depths
pub mod Laws
