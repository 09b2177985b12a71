pub mod InsideLemmas
pub mod ChainLemmas
pub mod ChildLemmas
pub mod CollectLemmas
pub mod ClassLemmas
mod LinkLemmas
pub mod ApartLemmas
mod TreeLemmas
pub mod LevelLemmas
pub mod PartLemmas
pub mod GroupLemmas
pub mod OrderLemmas
pub mod RunLemmas
pub mod LawLemmas
pub mod Computing
mod WorkedChains
