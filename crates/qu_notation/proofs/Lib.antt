pub mod AskFacts
pub mod NameFacts
pub mod TextFacts
pub mod WordFacts
