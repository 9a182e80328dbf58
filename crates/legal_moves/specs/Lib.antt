-- Legal moves as sets of squares. The rules of shogi: legal moves.
pub mod Legal
pub mod Steps
pub mod Droppable
