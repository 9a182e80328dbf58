-- A worker of the search: what it holds, what a port tells, and a run of the one over the other.
pub mod Stack
pub mod Machine
pub mod Port
