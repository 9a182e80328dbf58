pub mod Hiding
pub mod Making
pub mod Reckoned
pub mod Telling
