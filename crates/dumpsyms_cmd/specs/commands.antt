-- What each command answers, and what its text means: one module each.
pub mod Dump
pub mod Sample
pub mod Check
pub mod Lookup
pub mod Frame
pub mod Walk
pub mod Judge
pub mod Names
pub mod Stacks
