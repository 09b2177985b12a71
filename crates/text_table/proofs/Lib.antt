pub mod EndLemmas
pub mod SpaceLemmas
pub mod AlikeLemmas
pub mod Computing
mod WorkedTexts
