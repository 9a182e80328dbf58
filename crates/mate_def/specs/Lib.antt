-- The tsume rule.
pub mod Mate
