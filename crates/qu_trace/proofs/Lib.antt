pub mod EarliestLaws
pub mod LetterLaws
pub mod StartLaws
pub mod DecodedLaws
pub mod Parties
