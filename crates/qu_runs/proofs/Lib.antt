pub mod Small
pub mod Fits
pub mod Worlds
pub mod Events
pub mod Digests
pub mod Acts
