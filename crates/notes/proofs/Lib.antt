mod Among
mod Carrying
mod Gathered
mod Lent
mod Meeting
mod Truth
pub mod Offered
pub mod Sent
