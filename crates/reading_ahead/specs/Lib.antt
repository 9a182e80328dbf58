-- What is read ahead: its lines, what is heard of it, and what is handed on.
pub mod Line
pub mod Seen
pub mod Hearing
pub mod Ends
pub mod Waiting
pub mod Handing
pub mod Queue
