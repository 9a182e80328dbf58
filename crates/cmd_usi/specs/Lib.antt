-- This project's.
pub mod Talk
pub mod Text
pub mod Headline
pub mod Inside
pub mod Line
pub mod Words
