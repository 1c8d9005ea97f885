-- The versions that replicas store.
pub mod BegunVersions
pub mod HeldVersions
pub mod SteppedVersions
pub mod StoredValues
pub mod TrueVersions
pub mod Values
pub mod EverAccepted
