pub mod Answers
pub mod AnswerTexts
pub mod PlaceMaps
pub mod NearestMarks
pub mod UnderOf
pub mod IndexOf
pub mod internal
