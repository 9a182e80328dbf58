-- A table of positions: what an entry is, what a row of eight slots does, and which row a position
-- has.
pub mod Entry
pub mod Facts
pub mod Pins
pub mod Row
pub mod Shard
pub mod Spot
pub mod Emptied
pub mod Made
pub mod Marks
pub mod Known
