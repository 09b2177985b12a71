pub mod TextLemmas
mod WorkedNames
pub mod FindingLemmas
mod WorkedFindings
pub mod InitLemmas
mod WorkedFrames
