pub mod Listing
pub mod Covered
pub mod Entries
pub mod Verdicts
pub mod Shown
pub mod Once
