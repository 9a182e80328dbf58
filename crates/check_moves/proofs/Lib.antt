pub mod Meaning
pub mod Unstopped
pub mod Moved
