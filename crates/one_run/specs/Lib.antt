-- This project's.
pub mod Command
pub mod Inside
pub mod Outside
pub mod Run
pub mod Serial
pub mod Stops
pub mod Written
