pub mod MemoryLemmas
pub mod ReadingLemmas
pub mod WritingLemmas
pub mod Hex
pub mod Shown
pub mod RisingLemmas
