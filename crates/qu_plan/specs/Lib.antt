pub mod Beside
pub mod Chosen
pub mod Copying
pub mod Evidence
pub mod Knowledge
pub mod Linked
pub mod Linking
pub mod RefusalNumber
