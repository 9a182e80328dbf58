-- What of `record` is offered to the crates above; they cite no other lemma of this one.
pub use Rattle.cmd_record.proofs.Taken.{record_is_given}
