pub mod Ends
pub mod Lines
pub mod Report
pub mod Summary
pub mod Timeline
pub mod Words
