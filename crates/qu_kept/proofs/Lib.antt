pub mod EachObject
pub mod FitLinks
pub mod KeyedLaws
pub mod PerformedStates
pub mod RisingForms
pub mod RisingObjects
pub mod RowLaws
pub mod StandingLaws
