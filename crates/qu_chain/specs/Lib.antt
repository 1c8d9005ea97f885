pub mod Laws
pub mod Joint
pub mod Early
