-- The requests of correct clients that were handled.
pub mod SentRequests
pub mod ClientFacts
