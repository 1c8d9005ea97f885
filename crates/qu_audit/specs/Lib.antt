pub mod Answer
pub mod Digesting
pub mod Digests
pub mod Forging
pub mod Past
pub mod Texts
