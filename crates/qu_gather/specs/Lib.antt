pub mod Live
pub mod Correct
pub mod Gathered
pub mod Ticks
pub mod Torn
