pub mod Actors
pub mod Letters
pub mod Bags
pub mod PostState
