-- What of a table and a desk is offered to the crates above; they cite no other lemma of this one.
pub use Rattle.lone_port.proofs.Words.{IsOwn, held_here, held_some, word_here, word_past}
pub use Rattle.lone_port.proofs.Rows.{enters_for, left_for, looks_may}
-- notes that are known
pub use Rattle.lone_port.proofs.Filling.{takes_for}
-- may cross threads
pub use Rattle.lone_port.proofs.Sent.{lone_send}
