-- This project's: docs/formats.md.
pub mod Cut
pub mod Notes
pub mod FaultText
pub mod Text
pub mod Answer
pub mod Inside
pub mod Meaning
pub mod Headline
