-- Where updates and queries took effect.
pub mod Taking
pub mod AnsweredRounds
