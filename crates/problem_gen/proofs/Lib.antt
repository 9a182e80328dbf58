pub mod Alone
pub mod Attacking
pub mod Drawing
pub mod Generated
pub mod Leftover
