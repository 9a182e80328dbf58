-- Surveys: what the searches of many problems come to.
pub mod Tally
