pub mod Kept
pub mod Marking
pub mod Named
pub mod Question
