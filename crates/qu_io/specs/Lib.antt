pub mod FromStd
pub mod InMemory
pub mod Reads
pub mod Streams
pub mod Transfer
pub mod Writes
