mod ItemLemmas
mod PairLemmas
mod GatherLemmas
mod LawLemmas
mod PlaceLemmas
pub mod Computing
mod WorkedLists
mod WorkedRanges
