pub mod Equal
pub mod Differing
pub mod Senders
