-- Lemmas about a worker alone that is starved, and one whose table was told a note.
mod Starved
mod Learnt
