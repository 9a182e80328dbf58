pub mod Polled
pub mod Searches
pub mod Walking
pub mod Mated
pub mod Checks
pub mod Offered
