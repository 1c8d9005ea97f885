pub mod Operation
pub mod Script
