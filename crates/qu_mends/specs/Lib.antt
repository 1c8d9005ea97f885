pub mod Table
pub mod Seen
pub mod Remedy
pub mod Mending
pub mod Causes
