pub mod EqualBytes
pub mod SlotLaws
pub mod Taken
pub mod Votes
