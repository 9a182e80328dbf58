-- Notes: what they are made of, when they are valid, and what they say.
pub mod Code
pub mod Derivation
pub mod Lending
pub mod Set
pub mod Sets
pub mod Standing
pub mod Steps
pub mod Truth
pub mod Valid
