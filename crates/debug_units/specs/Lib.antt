pub mod UnitEntries
pub mod UnitTables
pub mod Owners
pub mod CleanPaths
pub mod CallPaths
pub mod EntriesAlone
pub mod internal
