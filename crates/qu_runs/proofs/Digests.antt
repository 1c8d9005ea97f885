-- What is digested in a run.
pub mod DigestedTexts
pub mod Plain
