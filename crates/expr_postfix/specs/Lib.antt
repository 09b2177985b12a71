pub mod ExprTokens
pub mod ExprValue
pub mod internal
