-- Lemmas of sessions.
pub mod Parts
pub mod Walked
pub mod Commanded
pub mod Moved
pub mod Refused
pub mod Cuts
pub mod OneCommand
pub mod OnePosition
pub mod OneAct
pub mod Lines
pub mod Over
pub mod Sound
pub mod Somes
