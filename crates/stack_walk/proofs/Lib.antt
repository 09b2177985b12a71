pub mod RecordLemmas
pub mod RisingLemmas
pub mod StackLemmas
pub mod StateLemmas
pub mod DescentLemmas
pub mod CallerLemmas
pub mod Computing
mod WorkedWalks
