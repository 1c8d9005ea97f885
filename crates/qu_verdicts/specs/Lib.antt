pub mod Verdict
pub mod RefusalNumber
pub mod Formats
