pub mod SizedAsks
pub mod KnownRuns
pub mod Grounded
pub mod DecidedOnce
pub mod Completed
pub mod Points
pub mod Orders
