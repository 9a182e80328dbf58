pub mod Replaying
pub mod Taken
pub mod Offered
pub mod Promises
