pub mod Decoded
pub mod Earliest
pub mod Faulty
pub mod Letters
pub mod Operation
pub mod Starts
