pub mod Lying
pub mod Arrived
pub mod Stopped
