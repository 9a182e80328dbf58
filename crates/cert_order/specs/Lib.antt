-- Entries that are yet to be put in order, and their order.
pub mod Entries
pub mod Order
