-- What of derivations is offered to the crates above; they cite no other lemma of this one.
pub use Rattle.notes.proofs.Truth.{note_after, height_le, valid_kept}
-- may cross threads
pub use Rattle.notes.proofs.Sent.{note_send}
pub use Rattle.notes.proofs.Carrying.{own_source}
-- what is lent may be carried
pub use Rattle.notes.proofs.Lent.{lent_to}
