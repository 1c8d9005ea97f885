-- The acts that replicas handled.
pub mod SizedParts
pub mod AddedActs
pub mod HandledActs
pub mod SignedActs
pub mod OwnLetters
pub mod Bodies
