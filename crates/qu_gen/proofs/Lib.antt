pub mod LineFacts
pub mod CountFacts
