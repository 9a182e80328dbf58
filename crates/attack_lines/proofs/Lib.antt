pub mod Slid
pub mod Sights
pub mod Shielded
