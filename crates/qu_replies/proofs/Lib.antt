pub mod KeptActs
pub mod QueryReplies
pub mod EachOf
pub mod Retries
pub mod TrueReplies
pub mod Replying
pub mod RepliesInRuns
