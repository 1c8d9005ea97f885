pub mod MachineValues
pub mod Versions
pub mod Updating
pub mod Requests
