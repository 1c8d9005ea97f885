pub mod Allowed
pub mod Named
pub mod Rows
pub mod State
