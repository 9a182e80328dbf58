-- This project's: what a problem's text stands for, and what is found of it.
pub mod Answer
pub mod Reading
