pub mod OneSession
pub mod SampleGates
pub mod SampleCircuit
pub mod SampleLimits
pub mod SampleInputs
pub mod SamplePieces
pub mod WorkedSamples
