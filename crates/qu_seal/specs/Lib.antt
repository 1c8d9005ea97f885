pub mod Digesting
pub mod Authenticating
pub mod Keys
