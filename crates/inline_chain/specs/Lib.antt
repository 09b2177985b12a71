pub mod InlineRuns
pub mod Trees
pub mod internal
