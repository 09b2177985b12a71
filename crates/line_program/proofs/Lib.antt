pub mod GoingLemmas
pub mod OpcodeLemmas
pub mod OperandLemmas
pub mod NumberLemmas
pub mod RunLemmas
pub mod HeaderLemmas
pub mod ListLemmas
pub mod EntryLemmas
pub mod NeededLemmas
pub mod PathLemmas
pub mod SortLemmas
pub mod PaintLemmas
pub mod CountLemmas
pub mod TableLemmas
pub mod SaysLemmas
pub mod ReadLemmas
pub mod ValueLemmas
pub mod StopLemmas
pub mod KeptLemmas
pub mod LinesLemmas
pub mod Computing
mod Samples
mod WorkedOpcodes
mod WorkedHeaders
mod WorkedPaths
mod WorkedLines
