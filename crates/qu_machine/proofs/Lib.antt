pub mod Equalities
pub mod Firsts
pub mod NamedValues
pub mod Running
pub mod Verdict
