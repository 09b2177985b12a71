-- What only the functions and loops of the crate need: no public clause cites it.
pub mod Sharing
pub mod Jobs
pub mod Owing
pub mod Stops
pub mod Files
pub mod Targets
