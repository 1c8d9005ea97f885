pub mod Names
pub mod Rising
pub mod Dir
pub mod Places
pub mod Order
pub mod Edits
pub mod Laws
