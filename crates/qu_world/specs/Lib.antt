pub mod State
pub mod Step
pub mod Parties
pub mod Refusals
pub mod Growth
pub mod Run
pub mod RefusalNumber
