pub mod TextLemmas
pub mod OkLemmas
pub mod BehindLemmas
pub mod UnitLemmas
pub mod UnitPlaceLemmas
pub mod AbbrevLemmas
pub mod ListedLemmas
mod PlaceLemmas
pub mod FormLemmas
pub mod FormTableLemmas
mod SizeLemmas
pub mod PickLemmas
pub mod KeepLemmas
pub mod TakeLemmas
pub mod Computing
mod WorkedForms
mod WorkedUnits
mod WorkedAbbrevs
mod WorkedTexts
