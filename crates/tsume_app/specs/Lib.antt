-- This project's.
pub mod Exit
pub mod Run
pub mod Told
