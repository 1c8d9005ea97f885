pub mod Calling
pub mod Numbers
pub mod Standing
