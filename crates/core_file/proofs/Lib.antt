pub mod BoolLemmas
pub mod JoinedLemmas
pub mod BlockLemmas
pub mod KeepLemmas
pub mod ByteLemmas
pub mod SegmentLemmas
pub mod PartLemmas
pub mod NoteLemmas
pub mod GatherLemmas
pub mod MemoryLemmas
pub mod FrontLemmas
pub mod PositionLemmas
pub mod FileLemmas
pub mod NameLemmas
pub mod ImageLemmas
pub mod IdLemmas
pub mod PageLemmas
pub mod CodeLemmas
pub mod ModuleLemmas
pub mod CoreLemmas
pub mod Computing
pub mod Cores
pub mod StoredLemmas
mod WorkedCore
mod WorkedFaults
mod WorkedModules
