-- What a world of many workers keeps under any schedule, and how each worker's log goes on in it.
pub mod Fair
pub mod Logs
pub mod Lost
pub mod Promises
pub mod Crew
