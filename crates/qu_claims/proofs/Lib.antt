pub mod PartValues
pub mod Handled
