-- What the worlds of a run keep from event to event.
pub mod WorldGrowth
pub mod LaterLetters
pub mod Befores
pub mod OpeningReplicas
pub mod Keyed
pub mod Objects
pub mod Settings
pub mod FewFaults
