pub mod AnsweredMore
pub mod Beyond
pub mod DecidedWorlds
pub mod Firsts
pub mod Known
pub mod Marking
pub mod Places
pub mod Settling
