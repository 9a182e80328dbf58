-- KIF: the moves behind a problem's diagram, in UTF-8.
pub mod Characters
pub mod Words
pub mod Lines
pub mod Playing
pub mod FaultText
pub mod Reading
pub mod Steps
