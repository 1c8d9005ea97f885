-- The acts that replicas handled: each was sent or injected, fits its format, and is named by its digest.
pub mod CarriedRequests
pub mod FitActs
pub mod OneAct
