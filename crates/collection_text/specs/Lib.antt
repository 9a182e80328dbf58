-- What collections printed: its lines.
pub mod Lines
pub mod Told
pub mod Words
