pub mod Masked
pub mod Sheltered
pub mod Dropping
pub mod Unshielded
pub mod Stepping
mod Movers
