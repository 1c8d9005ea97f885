pub mod Bringing
pub mod Called
pub mod Event
pub mod Operation
pub mod Parts
pub mod Phase
pub mod Script
pub mod Setup
