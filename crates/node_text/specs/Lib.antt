pub mod NodeText
pub mod FaultLines
