pub mod PieceLemmas
pub mod LengthLemmas
mod WorkedMade
