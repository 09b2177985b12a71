pub mod SumLemmas
pub mod NumberLemmas
pub mod StepLemmas
pub mod RuleLemmas
pub mod WorkLemmas
pub mod PlaceLemmas
pub mod ShareLemmas
mod WorkedRows
