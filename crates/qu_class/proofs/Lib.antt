pub mod OfKind
pub mod ClassRows
pub mod GroupRule
pub mod BaseOfClass
pub mod EntriesFit
pub mod Tested
