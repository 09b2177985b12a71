pub mod Ranges
pub mod internal
