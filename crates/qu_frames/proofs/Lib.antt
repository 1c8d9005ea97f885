pub mod Decoded
pub mod Forms
pub mod Pieces
pub mod Readings
pub mod Signed
