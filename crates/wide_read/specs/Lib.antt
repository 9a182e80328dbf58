-- Certificates read over several threads.
pub mod Stretches
