pub mod Blob
pub mod Laws
