pub mod Machine
pub mod Serial
pub mod Fault
pub mod PointTests
