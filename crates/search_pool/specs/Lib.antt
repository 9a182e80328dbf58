-- Searches: how they end, and what is true of them.
pub mod End
pub mod Inside
pub mod Laws
