pub mod Keeping
pub mod Naming
pub mod Gathered
pub mod Building
pub mod Marks
pub mod Trimmed
pub mod Targets
