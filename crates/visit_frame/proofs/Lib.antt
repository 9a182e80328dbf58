mod Places
mod Counting
mod Unsolved
mod Gathering
mod Refuted
mod Settling
pub mod Sent
pub mod Offered
