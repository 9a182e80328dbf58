-- The board of shogi without a position: squares, kinds and pieces, how pieces move, sets of
-- squares, directions and rays. The rules of shogi; the numbers of squares are this project's.
pub mod Square
pub mod Kind
pub mod Piece
pub mod Text
pub mod Movement
pub mod Mask
pub mod Direction
pub mod Gait
pub mod Going
