-- Jobs by number, done side by side.
pub mod Answers
pub mod Inside
