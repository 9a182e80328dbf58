-- A port of the shared table and the shared desk.
pub mod Tasks
pub mod Port
