pub mod Asked
pub mod Offered
