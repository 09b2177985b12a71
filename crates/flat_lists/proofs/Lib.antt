pub mod EndLemmas
mod WorkedLists
