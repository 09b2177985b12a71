pub mod LineLemmas
pub mod FrameTextLemmas
pub mod WalkTextLemmas
pub mod OnceLemmas
pub mod SaidLemmas
pub mod StacksTextLemmas
pub mod Computing
mod WorkedStacksText
