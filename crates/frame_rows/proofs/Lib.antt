pub mod TestLemmas
pub mod ReadLemmas
pub mod StepLemmas
pub mod RowLemmas
pub mod SoundLemmas
pub mod CfaLemmas
pub mod EntryLemmas
pub mod LeftLemmas
pub mod FollowLemmas
pub mod OperandLemmas
pub mod ColumnLemmas
pub mod TakeLemmas
pub mod StepperLemmas
pub mod StartLemmas
pub mod Computing
mod Entries
mod WorkedInstructions
mod WorkedEffects
mod WorkedEntries
mod WorkedReasons
