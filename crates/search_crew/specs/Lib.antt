-- A search by several workers: how it ends.
pub mod End
pub mod Inside
