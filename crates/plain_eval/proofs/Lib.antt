pub mod GateWords
