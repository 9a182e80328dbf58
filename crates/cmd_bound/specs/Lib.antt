-- This project's: docs/formats.md.
pub mod Text
pub mod Answer
pub mod Told
pub mod Meaning
pub mod Headline
