-- What only the functions and loops of the crate need: no public clause cites it.
pub mod Collecting
pub mod Classes
pub mod Growing
pub mod Grouping
pub mod Standing
pub mod Repeats
pub mod ScopeFronts
pub mod NameKeys
pub mod NameClasses
