pub mod Names
pub mod NameRefs
pub mod internal
