pub mod FindingWords
pub mod Findings
pub mod internal
