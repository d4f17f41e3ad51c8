pub mod RuleSteps
pub mod PushedWords
