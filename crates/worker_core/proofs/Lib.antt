-- Lemmas about a worker's visits.
pub mod Last
pub mod Played
pub mod Steps
pub mod Reached
pub mod TurnsStages
pub mod Turns
pub mod Offered
pub mod Sent
