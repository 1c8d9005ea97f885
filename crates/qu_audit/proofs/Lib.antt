pub mod Clashes
mod Collisions
pub mod Equalities
pub mod Forgeries
pub mod Frames
pub mod Lists
mod Noting
mod Steps
mod TextLaws
mod Unique
