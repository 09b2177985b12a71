pub mod Records
pub mod Walk
pub mod Rising
pub mod Callers
pub mod internal
