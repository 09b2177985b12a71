pub mod AddressTable
pub mod Places
pub mod ListItems
pub mod ListPairs
pub mod EntryRanges
