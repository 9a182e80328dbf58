-- This project's.
pub mod Answer
pub mod Headline
pub mod Line
pub mod Meaning
pub mod Text
pub mod Words
