pub mod Keyed
pub mod Performing
pub mod Remedy
pub mod Rows
pub mod Standing
