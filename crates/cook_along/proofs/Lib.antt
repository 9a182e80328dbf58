pub mod Turning
pub mod Stages
