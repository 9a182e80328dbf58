-- Lemmas of sessions over an input.
pub mod Course
pub mod Ends
pub mod Stops
pub mod Told
pub mod Taken
pub mod Offered
