pub mod FarFacts
pub mod LetterFacts
pub mod OutageFacts
pub mod RunFacts
pub mod WaitingFacts
