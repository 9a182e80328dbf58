-- Lemmas of the desk.
mod Views
mod Sums
mod Fits
mod Fresh
pub mod Moves
pub mod Seats
pub mod Ending
