pub mod TellingFacts
