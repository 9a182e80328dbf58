-- A table and a desk for a worker alone, and what each request does with them; a world of workers
-- that share them, under any schedule; and that of one worker alone.
pub mod Lone
pub mod World
pub mod Alone
pub mod Keeps
pub mod Filled
