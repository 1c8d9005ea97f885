pub mod History
pub mod Sets
pub mod Formats
pub mod Text
pub mod Culling
pub mod Trimming
pub mod Sealing
pub mod Digested
