pub mod Stepping
pub mod Joining
pub mod Ordered
pub mod Showing
pub mod Heard
