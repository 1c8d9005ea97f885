pub mod Bounds
pub mod Cursor
pub mod Format
pub mod Reading
pub mod RefusalNumber
pub mod Texts
