mod FrontLemmas
mod PieceLemmas
mod DigitLemmas
mod PartLemmas
mod NameLemmas
mod NumberLemmas
mod IdentifierLemmas
mod TextLemmas
mod LeafLemmas
mod FrameLemmas
mod RunLemmas
mod PathLemmas
mod EndLemmas
mod PassingLemmas
mod ConstantLemmas
mod StepLemmas
mod ShownLemmas
mod WholeLemmas
mod VisibleLemmas
mod JoinLemmas
pub mod RecordLemmas
mod LookupLemmas
pub mod FindingLemmas
pub mod Computing
mod WorkedNames
mod WorkedV0
mod WorkedV0Constants
