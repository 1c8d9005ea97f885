pub mod Descending
pub mod Keeping
pub mod Copying
pub mod Stored
pub mod Listed
pub mod Closing
