pub mod FuncRecords
pub mod TextNames
pub mod Adding
pub mod internal
