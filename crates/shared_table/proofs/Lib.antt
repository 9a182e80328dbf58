mod Notes
mod Sizes
pub mod Seats
pub mod Offered
