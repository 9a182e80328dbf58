-- This project's.
pub mod Faults
pub mod Memory
pub mod Sink
pub mod Source
pub mod Standard
