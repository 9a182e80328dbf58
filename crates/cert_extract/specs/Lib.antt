-- What is extracted from a note's tree.
pub mod Tree
pub mod Beside
pub mod Listing
pub mod Serving
pub mod Walk
pub mod Extracted
pub mod Known
