pub mod FirstMark
pub mod Tracker
