pub mod DebugPath
pub mod ModuleId
pub mod SymbolPath
pub mod Pairing
pub mod SupLink
pub mod SupLinkView
pub mod SupPath
pub mod FaultWords
