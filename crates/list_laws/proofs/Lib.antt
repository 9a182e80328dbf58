pub mod Standing
pub mod Mapped
pub mod MoveLists
pub mod Filling
pub mod Counted
pub mod Adding
pub mod Totals
