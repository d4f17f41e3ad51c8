pub mod Networks
pub mod Views
