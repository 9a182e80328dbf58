pub mod Endings
pub mod SoFar
pub mod Offered
pub mod Stating
