pub mod SessionInputs
pub mod FaultRows
pub mod PlanFit
pub mod WordChecks
pub mod GivenWidths
pub mod NumberChecks
pub mod ReadNumbers
