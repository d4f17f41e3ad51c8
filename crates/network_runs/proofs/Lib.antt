pub mod PlayedRuns
mod WholePlays
mod SimulatedWires
