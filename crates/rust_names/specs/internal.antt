-- Definitions that serve this crate's own functions.
pub mod Reading
pub mod Running
pub mod Finding
pub mod Passing
pub mod Stepping
