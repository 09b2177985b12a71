pub mod Pieces
pub mod LineRuns
pub mod Publics
pub mod internal
