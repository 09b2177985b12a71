pub mod BoolLemmas
pub mod SkipLemmas
pub mod CleaningLemmas
pub mod CleanLemmas
pub mod Computing
pub mod WorkedNames
