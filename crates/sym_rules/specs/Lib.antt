pub mod Cuts
pub mod Rules
pub mod RuleReading
pub mod FaultWords
pub mod RuleValidity
pub mod Buffer
pub mod internal
