pub mod WordFacts
pub mod ListedFacts
