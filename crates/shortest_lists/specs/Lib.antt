-- This project's: docs/shortest.md.
pub mod Reached
pub mod Ends
pub mod Placing
pub mod MateWalk
pub mod BoundWalk
pub mod Line
