-- What a stop counts.
pub mod Stop
pub mod Mem
pub mod Deadline
pub mod Polls
