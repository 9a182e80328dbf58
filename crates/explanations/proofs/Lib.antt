pub mod Plain
pub mod Readable
