-- This project's; clap for the meaning of words.
pub mod Options
pub mod Given
pub mod Meaning
pub mod FaultText
