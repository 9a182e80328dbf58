-- The problems that the generator makes, by number.
pub mod Draws
pub mod Generator
