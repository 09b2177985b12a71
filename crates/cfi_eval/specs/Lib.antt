pub mod Bytes
pub mod Postfix
pub mod TextRules
pub mod TextValue
pub mod Known
pub mod Inits
pub mod internal
