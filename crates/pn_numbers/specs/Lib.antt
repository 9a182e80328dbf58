-- Proof numbers and disproof numbers: what they are, how a node has them from its children, which
-- child is visited next, and up to which thresholds. (Nagai 2002; virtual numbers after Kaneko
-- 2010.)
pub mod Node
pub mod Numbers
pub mod Combined
pub mod Selection
pub mod Leading
pub mod Thresholds
