-- Where positions stand in a list.
pub mod Places
pub mod Boards
