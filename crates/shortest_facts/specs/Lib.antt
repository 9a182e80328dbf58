-- This project's: docs/shortest.md.
pub mod Facts
pub mod Keys
