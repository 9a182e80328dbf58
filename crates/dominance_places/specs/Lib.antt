-- What of a list a position dominates.
pub mod Best
pub mod Found
pub mod Hands
pub mod Covering
