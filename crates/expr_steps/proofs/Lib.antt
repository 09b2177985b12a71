pub mod FollowLemmas
pub mod StepLemmas
pub mod StandingLemmas
pub mod OperandLemmas
pub mod BoundLemmas
pub mod Computing
mod WorkedSteps
mod WorkedStandings
