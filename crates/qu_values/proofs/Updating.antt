-- The candidates of an update, and what performs them.
pub mod Updates
pub mod UpdateFacts
pub mod UpdatesOfRuns
pub mod RisingNumbers
pub mod PerformedUpdates
