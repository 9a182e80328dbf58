pub mod Taken
pub mod Armed
pub mod Promises
pub mod Verdict
pub mod Offered
