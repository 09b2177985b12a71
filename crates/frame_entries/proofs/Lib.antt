pub mod LetterLemmas
pub mod ListingLemmas
pub mod FindLemmas
pub mod PlaceLemmas
pub mod ReasonLemmas
pub mod SharedLemmas
pub mod Computing
mod Sections
mod WorkedListing
mod WorkedReasons
mod WorkedPointers
