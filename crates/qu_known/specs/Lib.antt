pub mod Tracked
pub mod Answers
pub mod Known
