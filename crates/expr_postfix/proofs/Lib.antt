pub mod TokenLemmas
pub mod StepLemmas
pub mod ValueLemmas
pub mod WholeLemmas
pub mod FitLemmas
pub mod Computing
mod WorkedExpressions
