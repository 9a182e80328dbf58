-- This project's.
pub mod Found
pub mod Inside
