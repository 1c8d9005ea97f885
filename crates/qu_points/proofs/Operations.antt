-- The operations of a trace.
pub mod Began
pub mod Correct
pub mod Distinct
pub mod Recorded
