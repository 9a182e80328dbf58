-- The rules of shogi.
pub mod Rules
pub mod Tsume
pub mod Scan
pub mod Trial
pub mod Laws
