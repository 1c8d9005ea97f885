pub mod Steps
pub mod Replays
pub mod Told
pub mod Merged
pub mod Entries
pub mod Operations
pub mod Standing
