pub mod Made
pub mod CopiesAgree
pub mod ActsAgree
pub mod HowMade
pub mod Unsealed
pub mod Alike
pub mod Agreed
