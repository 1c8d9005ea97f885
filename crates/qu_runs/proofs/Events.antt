-- What an event hands to a party, and what it records.
pub mod Entries
pub mod Handing
pub mod Recording
pub mod Beginning
