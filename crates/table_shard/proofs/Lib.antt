mod Noted
mod Rows
mod Made
mod Places
mod Marks
mod Powers
mod Emptied
pub mod Offered
pub mod Sent
mod Sites
mod Standing
mod Looked
mod Lent
mod Known
