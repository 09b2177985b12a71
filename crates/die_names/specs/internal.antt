-- What only the functions and loops of the crate need: no public clause cites it.
pub mod Finding
pub mod Following
pub mod Gathering
pub mod KeptNames
