-- The table of a search by several threads.
pub mod Seat
pub mod Rows
pub mod Calls
pub mod Table
