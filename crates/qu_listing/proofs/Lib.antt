pub mod CallFacts
pub mod DigestFacts
pub mod EventFacts
pub mod LetterFacts
pub mod ReceiverFacts
pub mod WorldFacts
