-- Who attacks a square, and what stands between. The rules of shogi: movement, check.
pub mod Lines
pub mod Parts
