-- This project's.
pub mod Headline
pub mod Verdict
pub mod Text
pub mod Meaning
pub mod Line
pub mod Words
