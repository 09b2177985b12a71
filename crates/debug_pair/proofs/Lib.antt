pub mod PathLemmas
pub mod LinkLemmas
pub mod PlaceLemmas
pub mod IdentityLemmas
mod WorkedPaths
mod WorkedLinks
pub mod Computing
