mod HeldLemmas
mod FlagLemmas
mod HeadLemmas
mod ScopeLemmas
mod SameLemmas
mod StepLemmas
mod TreeLemmas
pub mod WalkLemmas
pub mod EntryPlaceLemmas
pub mod Computing
mod WorkedEntries
mod WorkedAttributes
