-- This project's; of moves' texts the USI protocol's.
pub mod Moves
pub mod Turns
pub mod Stages
pub mod Inside
