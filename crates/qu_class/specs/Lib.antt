pub mod Repairable
pub mod Class
pub mod Rows
