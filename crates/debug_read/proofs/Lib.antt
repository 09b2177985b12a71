pub mod EachLemmas
pub mod SetLemmas
pub mod LineLemmas
pub mod UnitLemmas
mod OwingLemmas
mod SharingLemmas
pub mod PickLemmas
pub mod JobLemmas
pub mod Computing
mod WorkedFaults
pub mod FileLemmas
pub mod KeptLemmas
pub mod PathLemmas
pub mod OwnerLemmas
mod SaidLemmas
mod SaidNameLemmas
pub mod SameLemmas
pub mod TargetLemmas
