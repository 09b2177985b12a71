pub mod TextNames
pub mod Plain
pub mod Inits
pub mod Findings
