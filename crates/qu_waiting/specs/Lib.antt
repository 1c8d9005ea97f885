pub mod Fetching
pub mod RefusalNumber
pub mod Slots
pub mod Tally
pub mod Waiting
