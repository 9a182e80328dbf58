pub mod Sides
pub mod Pieces
pub mod Cells
pub mod Squares
pub mod Keys
pub mod Kept
pub mod Truth
