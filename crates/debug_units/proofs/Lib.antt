mod SetLemmas
pub mod ReadLemmas
pub mod MadeUnits
