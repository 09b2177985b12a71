pub mod CoreRuns
pub mod ModuleAt
pub mod SymbolFiles
pub mod Symbols
pub mod Stacks
pub mod Walking
pub mod internal
