pub mod Tag
pub mod Path
pub mod Laws
