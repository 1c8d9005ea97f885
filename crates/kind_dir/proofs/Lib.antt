pub mod Places
pub mod LastName
