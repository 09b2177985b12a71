pub mod Spaces
pub mod Ends
