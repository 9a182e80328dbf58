-- When a position dominates another, and what lists of positions say by that.
pub mod BorneOut
pub mod ByKey
pub mod Dominance
