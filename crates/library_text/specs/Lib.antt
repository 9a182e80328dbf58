-- This project's: docs/formats.md.
pub mod Text
pub mod Reading
pub mod FaultText
pub mod Ends
pub mod Scan
pub mod Laws
