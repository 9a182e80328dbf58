pub mod TextOrder
pub mod Picked
