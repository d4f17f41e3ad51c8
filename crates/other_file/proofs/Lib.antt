mod FaultRows
pub mod GivenInputs
mod FaultParties
