-- This crate's lemmas.
mod Handed
