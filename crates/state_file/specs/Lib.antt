pub mod StateWords
pub mod StateText
pub mod internal
