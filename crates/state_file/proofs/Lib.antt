pub mod CutLemmas
pub mod HexLemmas
pub mod StateLemmas
pub mod Computing
pub mod WorkedStates
