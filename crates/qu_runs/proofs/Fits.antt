-- What is sent in a run fits its format.
pub mod FitParts
pub mod FitRequests
pub mod FitClients
pub mod Fitting
pub mod Carrying
pub mod StepLetters
pub mod ClientLetters
