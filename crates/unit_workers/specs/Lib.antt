pub mod Numbers
pub mod Held
pub mod Drawing
pub mod Steps
pub mod Working
pub mod Shares
