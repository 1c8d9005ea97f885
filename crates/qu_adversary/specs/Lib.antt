pub mod Sealing
pub mod Fetched
pub mod Replying
pub mod Requesting
