pub mod Carrying
pub mod Scanning
pub mod Multiplying
pub mod Dividing
