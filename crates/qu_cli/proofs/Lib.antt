pub mod EndFacts
pub mod LiveFacts
pub mod ScriptFacts
pub mod SimulationFacts
pub mod OutputFacts
pub mod ToldFacts
