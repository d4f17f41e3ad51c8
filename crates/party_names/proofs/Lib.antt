pub mod NameFaults
