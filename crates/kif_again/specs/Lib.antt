-- This project's.
pub mod Again
