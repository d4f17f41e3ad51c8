pub mod Answers
pub mod Tokens
pub mod Header
pub mod GateLines
pub mod CircuitFiles
pub mod Steps
pub mod Grammar
pub mod CircuitTexts
