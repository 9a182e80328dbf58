-- Lemmas of the counts.
mod Views
pub mod Moves
