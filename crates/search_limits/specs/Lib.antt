-- The settings of a search, and which numbers make them.
pub mod Settings
pub mod Sizes
