-- Lemmas of lines.
pub mod Taken
pub mod Offered
