pub mod Operations
pub mod Steps
pub mod Standing
pub mod Places
pub mod internal
