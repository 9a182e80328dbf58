pub mod Cutting
pub mod Knowing
pub mod Refusing
pub mod Verdict
pub mod Promises
pub mod Offered
