pub mod Stepping
pub mod Runs
pub mod StepRuns
pub mod Covers
pub mod SpanStretches
pub mod Overlays
pub mod Ends
pub mod internal
