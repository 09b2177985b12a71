pub mod Computing
pub mod FormLemmas
pub mod SameLemmas
pub mod TableLemmas
pub mod RuleMapLemmas
pub mod StackLemmas
pub mod SideLemmas
pub mod FrameLemmas
pub mod NameLemmas
pub mod AliasLemmas
pub mod HeldFormLemmas
pub mod RuleAliasLemmas
pub mod FilePairLemmas
pub mod BlockLemmas
pub mod ClearLemmas
pub mod ChainLemmas
pub mod FunctionPairLemmas
pub mod DoubtLemmas
pub mod SteadyLemmas
pub mod StopListLemmas
pub mod StopLemmas
pub mod LawLemmas
pub mod CopyLemmas
mod WorkedForms
mod WorkedAlike
mod WorkedChains
