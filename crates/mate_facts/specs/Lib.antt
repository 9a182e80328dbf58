-- What entries of a mate say, and what is true of all of them.
pub mod Entries
pub mod Laws
