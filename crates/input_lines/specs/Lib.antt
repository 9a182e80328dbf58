-- This project's.
pub mod Lines
