pub mod Events
pub mod Fake
pub mod Letters
pub mod Outage
pub mod Player
pub mod Waiting
