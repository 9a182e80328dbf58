-- Lemmas about visit logs and workers.
pub mod Waiting
pub mod Stands
pub mod Bracketed
pub mod Paid
pub mod SoundChildren
pub mod SoundNotes
pub mod SoundSteps
pub mod Slots
pub mod Drawn
pub mod ToCome
pub mod Caused
pub mod Ended
pub mod Logged
pub mod Paths
pub mod Offered
