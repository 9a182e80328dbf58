-- This project's: docs/formats.md.
pub mod Judged
pub mod Text
pub mod Answer
pub mod Inside
pub mod Meaning
pub mod Headline
