pub mod Stamp
pub mod Blanks
pub mod Group
pub mod Candidate
pub mod Formats
