-- How a search's numbers begin, and how the defender's answers are counted.
pub mod Answers
pub mod Start
