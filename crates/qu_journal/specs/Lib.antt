pub mod Alike
pub mod Journal
