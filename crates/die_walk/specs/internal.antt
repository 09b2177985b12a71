-- Definitions for the functions and loops of this crate only: no public clause cites them.
pub mod Sites
pub mod Heads
pub mod Near
