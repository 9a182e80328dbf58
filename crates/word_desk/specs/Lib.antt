-- A desk whose counts are words: what a seat of it knows, and what is kept of both words and all
-- seats.
pub mod Rule
pub mod WordDesk
