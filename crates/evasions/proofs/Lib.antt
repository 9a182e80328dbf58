pub mod Counts
pub mod Evading
