pub mod Calls
pub mod Locked
