-- Definitions for the functions and loops of the crate. Public contracts use only those that say
-- for which FUNC records an index stores what is under them.
pub mod Scans
pub mod Spots
pub mod Kinds
pub mod Marks
pub mod HeldUnders
pub mod Risings
pub mod Levels
pub mod SharedTexts
