-- What of rows is offered to the crates above; they cite no other lemma of this one.
pub use Rattle.table_shard.proofs.Rows.{updated-key, holds_push, holds_set, lacks_at, given_up_idle, holds_more, holds_end, holds_within, enters_stays, holds_put, left_stays, length-left}
pub use Rattle.table_shard.proofs.Places.{place_within, entered_at}
-- counts that nobody else changes
pub use Rattle.table_shard.proofs.Standing.{TellsStanding, enters_standing, looks_standing}
-- what is lent may be carried
pub use Rattle.table_shard.proofs.Lent.{lent_fact}
-- may cross threads
pub use Rattle.table_shard.proofs.Sent.{shard_send}
