-- This project's; clap for the meaning of words.
pub mod Commands
pub mod Line
pub mod Meaning
