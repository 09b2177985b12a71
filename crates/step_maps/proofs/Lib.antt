pub mod SteppingLemmas
pub mod OverlayLemmas
pub mod RunLemmas
pub mod OneRuns
pub mod MaximalLemmas
pub mod PieceLemmas
pub mod StretchLemmas
pub mod IndexLemmas
pub mod SpanLemmas
pub mod LayingLemmas
pub mod SortedLemmas
pub mod NearestLemmas
pub mod FirstLemmas
pub mod JoiningLemmas
pub mod Computing
mod WorkedCovers
mod WorkedSteps
