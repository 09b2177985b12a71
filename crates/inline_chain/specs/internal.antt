-- What only the functions and loops of this crate need: no public clause names it.
pub mod Levels
pub mod Copies
pub mod Links
pub mod Apart
