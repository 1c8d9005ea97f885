-- What a replica makes and holds fits its format.
pub mod FitSteps
