-- This project's: docs/shortest.md.
pub mod Finding
pub mod First
