-- Operations that completed, and the replies behind their answers.
pub mod CompletedActs
pub mod CompletedQueries
pub mod ToldAnswers
pub mod QueryRounds
pub mod ToldParts
pub mod KeptParts
pub mod AddedOnce
pub mod Along
pub mod ByQuorums
