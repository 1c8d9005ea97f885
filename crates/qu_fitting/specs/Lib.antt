pub mod Fits
pub mod Holding
