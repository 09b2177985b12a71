pub mod OperandLemmas
pub mod TakenLemmas
pub mod Computing
mod WorkedLayouts
