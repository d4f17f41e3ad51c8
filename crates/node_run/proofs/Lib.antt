mod KnownWords
mod CellChanges
mod OutletSteps
mod SessionSteps
mod SessionOrder
mod HelloSteps
mod FlushSteps
mod DoneRuns
pub mod ReaderRuns
mod PeerEnds
mod NodeRuns
mod RunBegins
mod NodeParts
mod ReadyKept
mod ClosedLinks
