-- Definitions for the functions and loops of the crate: no public clause cites them.
pub mod Stops
pub mod Tables
pub mod RuleMaps
pub mod RuleAliases
pub mod Stacks
pub mod Spots
pub mod Blocks
pub mod Aliases
pub mod OneNames
pub mod HeldForms
pub mod Chains
