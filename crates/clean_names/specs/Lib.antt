pub mod Names
pub mod Cleaning
