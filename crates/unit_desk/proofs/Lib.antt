pub mod Offered
pub mod Sent
