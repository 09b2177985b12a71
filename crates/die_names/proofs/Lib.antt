mod FindLemmas
mod AmongLemmas
mod FollowLemmas
mod NameLemmas
pub mod AloneLemmas
mod JoinLemmas
mod CutLemmas
pub mod TextLemmas
pub mod PartLemmas
pub mod Computing
mod WorkedNames
mod WorkedUnits
