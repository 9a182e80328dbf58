-- A search by proof numbers as a grammar of visits, and as a machine that takes one answer at a
-- time.
pub mod Frame
pub mod Children
pub mod Round
pub mod Visit
pub mod Unmade
pub mod Machine
pub mod Run
pub mod Sound
pub mod Counts
pub mod Laws
