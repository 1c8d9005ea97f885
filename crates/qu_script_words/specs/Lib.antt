pub mod Meaning
pub mod Words
pub mod Rules
pub mod Parties
pub mod RefusalNumber
