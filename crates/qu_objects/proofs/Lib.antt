pub mod PartLaws
pub mod Forms
pub mod Text
pub mod ReadingLaws
pub mod StateLaws
