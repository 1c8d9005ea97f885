pub mod Fits
pub mod States
pub mod Requests
