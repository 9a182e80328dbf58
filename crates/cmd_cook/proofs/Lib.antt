pub mod Written
pub mod Promises
pub mod Taken
pub mod Offered
