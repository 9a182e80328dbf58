-- This project's.
pub mod Headline
pub mod Line
pub mod Summary
pub mod Words
