-- The USI protocol.
pub mod MoveText
pub mod Padded
pub mod Lines
