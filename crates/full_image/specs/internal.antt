-- What only the functions of the crate need: no public clause cites it.
pub mod Front
pub mod SupFront
