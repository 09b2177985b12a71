-- What only the functions and loops of the crate need: no public clause cites it.
pub mod Spelled
pub mod Writes
pub mod Judged
pub mod Counting
pub mod HeldTable
pub mod LeftOut
