mod PartLemmas
mod TurnLemmas
mod SizeLemmas
mod FrontLemmas
mod SupFrontLemmas
pub mod Computing
mod WorkedImage
mod WorkedSupplement
