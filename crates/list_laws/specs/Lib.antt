-- What filling a list of moves adds to it; the order of moves is this project's.
pub mod Added
