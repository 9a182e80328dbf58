pub mod Naming
pub mod Apart
pub mod Following
pub mod Outcomes
