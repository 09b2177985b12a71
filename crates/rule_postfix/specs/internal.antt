-- Definitions for the functions and loops of the crate alone: no public clause cites them.
pub mod Backward
pub mod Deciding
pub mod Keeping
pub mod Shares
pub mod Spelling
pub mod Taken
pub mod Writing
