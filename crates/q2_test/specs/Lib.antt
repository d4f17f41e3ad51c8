pub mod CoveringPairs
