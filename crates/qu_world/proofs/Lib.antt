pub mod Each
pub mod Moving
pub mod OpeningLaws
pub mod Steps
pub mod RunLaws
pub mod WorldGrowth
