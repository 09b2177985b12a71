-- What only the functions and loops of this crate need: no public clause names it.
pub mod Texts
pub mod Calls
pub mod Gathering
pub mod HeldNames
pub mod Noting
pub mod Numbering
pub mod Origins
pub mod Parts
pub mod Shares
pub mod Spelling
