-- This project's.
pub mod Characters
pub mod Diagram
pub mod Mated
pub mod Moves
pub mod Record
