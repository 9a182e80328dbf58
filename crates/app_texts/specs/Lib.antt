-- Texts of answers and faults; the USI protocol for the answer.
pub mod FaultText
pub mod Texts
