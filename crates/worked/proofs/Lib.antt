mod Computing
mod Elf
mod OneUnits
mod OneTexts
mod BareLemmas
mod OneRecords
mod OneVerdict
mod OneRun
mod DumpedYes
pub mod RowStepLemmas
pub mod OwnDebugFile
pub mod JudgedLemmas
mod PlainJudge
mod Plain
mod Small
mod WorkedWords
mod WorkedRanges
mod WorkedSymbols
mod WorkedFrames
mod WorkedHeaders
mod WorkedFaults
mod WorkedIds
mod WorkedJudgements
mod WorkedDebug
pub mod ComputingSymbols
mod WorkedSymbolFiles
mod WorkedStacks
mod WorkedNames
mod WorkedPairs
mod WorkedFull
mod WorkedSupplements
mod WorkedPacked
