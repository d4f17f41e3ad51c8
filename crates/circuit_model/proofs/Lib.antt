pub mod SetAt
pub mod ListTests
pub mod PassedChecks
pub mod SetWires
pub mod DraftLaws
pub mod Solutions
pub mod GateWires
