pub mod Lines
pub mod FrameText
pub mod WalkText
pub mod Once
pub mod StacksText
pub mod internal
