pub mod Entries
pub mod Numbers
pub mod Heads
pub mod Lines
pub mod Again
