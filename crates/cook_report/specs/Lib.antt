-- This project's: docs/formats.md.
pub mod Report
pub mod Valid
pub mod Shown
pub mod Joined
pub mod Joining
pub mod Line
