pub mod RunLemmas
pub mod ModuleLemmas
pub mod FileLemmas
pub mod NameLemmas
pub mod WalkerLemmas
pub mod Computing
mod WorkedMemory
mod WorkedModules
mod WorkedStacks
