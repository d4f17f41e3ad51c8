pub mod ReadFrames
