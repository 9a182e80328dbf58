-- The desk of a search: what drawing, claiming and posting do.
pub mod Desk
pub mod Known
