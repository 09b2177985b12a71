-- Definitions for the functions and loops of this crate only: no public clause names them.
pub mod Numbered
pub mod Painting
pub mod RowsAbove
pub mod Directories
pub mod KeptRows
pub mod Needed
