-- This project's: docs/formats.md.
pub mod Refused
pub mod Judged
