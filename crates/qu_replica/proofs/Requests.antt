-- What a replica asks for, and what it shows.
pub mod Fetches
pub mod Showing
