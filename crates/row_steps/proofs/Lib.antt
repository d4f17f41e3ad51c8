pub mod RowWrites
pub mod RingSums
