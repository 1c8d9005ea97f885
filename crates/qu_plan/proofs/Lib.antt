pub mod Agreeing
pub mod Chosen
pub mod Copying
pub mod Parts
pub mod PlanEvidence
pub mod SameShown
pub mod Versions
