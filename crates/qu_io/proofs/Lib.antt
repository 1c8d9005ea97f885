pub mod Moves
pub mod TransferFacts
