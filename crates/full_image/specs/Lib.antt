pub mod Compressed
pub mod StreamView
pub mod FullImage
pub mod SupImage
pub mod internal
