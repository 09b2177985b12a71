pub mod AheadLemmas
pub mod FixedLemmas
pub mod PlaceLemmas
pub mod TextLemmas
pub mod GroupLemmas
pub mod TenthLemmas
pub mod UlebLemmas
pub mod SlebLemmas
pub mod PassLemmas
pub mod Computing
mod WorkedLeb
mod WorkedReadings
pub mod ListLemmas
