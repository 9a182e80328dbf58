pub mod Taken
pub mod Offered
