pub mod Lists
pub mod Joining
pub mod Cuts
pub mod Outcomes
