pub mod Worlds
pub mod Locals
pub mod Laws
pub mod Solutions
pub mod Made
pub mod Multiply
pub mod CarriedProduct
