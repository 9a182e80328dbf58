pub mod Parts
pub mod Ends
pub mod Fronts
pub mod Again
pub mod Outcomes
