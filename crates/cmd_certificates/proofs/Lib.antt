pub mod Judgements
pub mod Promises
pub mod Offered
