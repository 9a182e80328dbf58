-- What the tests' own clock tells.
pub mod Given
