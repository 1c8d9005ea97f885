pub mod OwnHistories
pub mod TrueLetters
pub mod Views
pub mod AskedLetters
