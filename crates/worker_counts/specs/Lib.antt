-- Counts of workers: what a seat knows, and what is kept of all words and all seats.
pub mod Counts
