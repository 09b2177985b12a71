pub mod StandLemmas
pub mod CollectLemmas
pub mod MappedRuns
pub mod FunctionLemmas
pub mod PieceLemmas
pub mod RepeatLemmas
pub mod ClassLemmas
pub mod NameLemmas
pub mod KeyLemmas
pub mod FrontLemmas
pub mod GrowingRuns
pub mod LineLemmas
pub mod PublicLemmas
pub mod LawLemmas
pub mod Computing
mod WorkedPieces
mod WorkedLines
mod WorkedPublics
