pub mod Blank
pub mod Body
pub mod Decoding
pub mod Formats
pub mod Reading
pub mod Signing
