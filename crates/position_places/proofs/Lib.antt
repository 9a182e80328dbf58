pub mod Finding
pub mod Boards
