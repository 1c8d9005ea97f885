pub mod BagLaws
pub mod PostLaws
