pub mod CutLemmas
pub mod NumberLemmas
pub mod DigitLemmas
pub mod FieldLemmas
pub mod RunLemmas
pub mod ShortWordLemmas
pub mod ShortLemmas
pub mod ProgressLemmas
pub mod PieceLemmas
pub mod ReaderLemmas
pub mod DecidedLemmas
pub mod InputLemmas
pub mod CountLemmas
pub mod EagerLemmas
pub mod Computing
mod WorkedAnswers
