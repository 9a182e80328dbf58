-- Mate sessions of the USI protocol.
pub mod Fields
pub mod Numbers
pub mod Options
pub mod Commands
pub mod Positions
pub mod Texts
pub mod Sessions
pub mod Seen
pub mod Reading
pub mod Laws
