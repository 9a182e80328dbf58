-- This project's: docs/formats.md.
pub mod Entries
pub mod Certificate
pub mod Kinds
pub mod Text
pub mod Reading
pub mod UpToEnd
pub mod FaultText
pub mod Scan
pub mod Lines
pub mod Laws
