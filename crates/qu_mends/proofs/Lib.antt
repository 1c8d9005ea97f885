pub mod MadeGroups
pub mod Parts
pub mod Members
pub mod Decided
pub mod Seeing
