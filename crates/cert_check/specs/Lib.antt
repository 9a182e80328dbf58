-- This project's: docs/formats.md.
pub mod Hearing
pub mod Valid
pub mod Reached
pub mod Reasons
pub mod Upgraded
