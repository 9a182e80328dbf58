-- This project's: docs/formats.md.
pub mod Bound
pub mod Text
pub mod Reading
pub mod FaultText
pub mod Scan
pub mod Laws
