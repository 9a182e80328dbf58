-- Lemmas about searches by several workers.
pub mod Moves
pub mod Working
pub mod Crews
pub mod Sent
pub mod Offered
