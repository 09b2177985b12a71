-- What only the functions and loops of the crate need: no public clause cites it.
pub mod Front
