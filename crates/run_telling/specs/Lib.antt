-- This project's.
pub mod Status
pub mod Telling
