pub mod Points
pub mod Signed
pub mod Facts
