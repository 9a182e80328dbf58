pub mod Putting
pub mod Mates
pub mod Bounds
pub mod Sorted
pub mod Finding
pub mod Lines
