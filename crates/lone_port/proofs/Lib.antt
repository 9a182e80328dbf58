-- Lemmas about the table of a worker alone, and about worlds.
pub mod Words
pub mod Rows
pub mod Places
pub mod Asked
mod Renewed
pub mod Stepped
pub mod Counted
pub mod Filling
pub mod Sent
pub mod Offered
