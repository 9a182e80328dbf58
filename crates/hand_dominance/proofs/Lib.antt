pub mod Hands
pub mod Moves
pub mod Carried
pub mod Listed
pub mod Covering
pub mod Above
pub mod Keys
