pub mod Refusal
pub mod Report
pub mod Ends
pub mod Output
pub mod Told
