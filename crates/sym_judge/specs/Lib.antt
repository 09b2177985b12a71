pub mod Forms
pub mod FormValues
pub mod Alike
pub mod Rulings
pub mod SameMeaning
pub mod internal
