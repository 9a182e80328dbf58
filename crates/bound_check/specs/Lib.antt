-- This project's: docs/formats.md.
pub mod Valid
pub mod Reasons
