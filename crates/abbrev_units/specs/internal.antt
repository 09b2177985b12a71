-- Definitions for the functions and loops of this crate only: no public clause cites them.
pub mod FormRows
pub mod Takes
pub mod Listed
pub mod Used
pub mod Picked
pub mod Filled
