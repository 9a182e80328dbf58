pub mod Finding
pub mod Following
pub mod Places
pub mod Sent
pub mod Totals
pub mod Taken
pub mod Offered
