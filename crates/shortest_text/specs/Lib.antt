-- This project's: docs/formats.md.
pub mod Text
pub mod Reading
pub mod Ends
pub mod FaultText
pub mod Scan
pub mod Laws
