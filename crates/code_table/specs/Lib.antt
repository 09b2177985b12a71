pub mod Rows
pub mod Layouts
pub mod FrameOps
pub mod Operands
pub mod LineOps
pub mod ExprOps
pub mod Forms
