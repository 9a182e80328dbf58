-- This project's.
pub mod Reply
pub mod Served
pub mod Inside
