mod AloneCalls
mod FilesRead
mod HiddenInputs
mod Jobs
mod Audits
mod LinkTalks
mod NodeRuns
mod Pairs
mod PartyLoops
mod Runs
pub mod WholeWorlds
pub mod SomeVerdict
mod Statuses
mod SteadyTalks
