pub mod TableLemmas
pub mod ProgramLemmas
pub mod NoteLemmas
pub mod WalkedLemmas
pub mod IdentityLemmas
pub mod SymbolLemmas
pub mod CodeLemmas
pub mod PairLemmas
pub mod Computing
pub mod Elf
mod WorkedImage
mod WorkedFaults
mod WorkedNotes
mod WorkedPair
mod WorkedLinks
