pub mod Totals
pub mod Turns
pub mod Choice
