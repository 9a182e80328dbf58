-- The rules of shogi; the layout of the key and the order of moves are this project's.
pub mod Laws
pub mod Board
pub mod Kept
pub mod Build
pub mod Order
pub mod Text
pub mod Key
pub mod Code
pub mod Sets
pub mod Packed
pub mod Rest
pub mod KeyOrder
