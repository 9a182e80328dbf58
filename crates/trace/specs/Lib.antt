-- What a world that is written down keeps.
pub mod Told
pub mod Ported
