pub mod Listed
pub mod Defending
pub mod Following
