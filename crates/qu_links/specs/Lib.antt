pub mod Over
pub mod Making
pub mod Listing
pub mod Copying
pub mod Closing
