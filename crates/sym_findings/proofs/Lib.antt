pub mod Computing
pub mod MeetingLemmas
pub mod NumberLemmas
pub mod JudgedLemmas
pub mod ListingLemmas
pub mod PairLemmas
pub mod UnderLemmas
pub mod FrameLemmas
pub mod LawLemmas
mod WorkedFindings
