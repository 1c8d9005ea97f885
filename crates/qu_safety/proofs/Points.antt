-- The points of operations, and the events at which they stand.
pub mod ActPoints
pub mod PointEvents
pub mod OwnedPoints
pub mod EventRequests
