-- Lemmas of serving.
pub mod Acts
pub mod Over
pub mod Offered
