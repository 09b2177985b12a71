pub mod Ahead
pub mod Texts
pub mod Readings
pub mod Passes
pub mod Lists
pub mod internal
