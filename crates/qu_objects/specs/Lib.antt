pub mod Parts
pub mod Kind
pub mod RefusalNumber
pub mod Performing
pub mod Formats
pub mod Digesting
pub mod Alike
pub mod States
