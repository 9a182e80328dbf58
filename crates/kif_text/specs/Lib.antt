-- KIF: the board diagram of a problem, in UTF-8.
pub mod Characters
pub mod First
pub mod Words
pub mod Rows
pub mod Lines
pub mod Header
pub mod FaultText
pub mod Reading
pub mod Steps
