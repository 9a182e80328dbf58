-- Certificates checked over several threads.
pub mod Stretches
