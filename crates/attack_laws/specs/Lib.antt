-- What a move changes of who attacks what. The rules of shogi: movement, check.
pub mod Unveiled
