pub mod CallFacts
pub mod CommentFacts
pub mod LiarFacts
pub mod PartFacts
pub mod PhaseFacts
pub mod ScriptFacts
