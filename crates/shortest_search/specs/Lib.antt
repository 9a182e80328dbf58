-- This project's: docs/shortest.md.
pub mod Children
pub mod Visit
