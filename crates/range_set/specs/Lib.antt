pub mod Members
pub mod Canonical
pub mod Starts
pub mod Building
pub mod Enclosing
pub mod internal
