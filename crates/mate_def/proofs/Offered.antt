-- What of lists with one more in front is offered to the crates above; they cite no other lemma of
-- this one.
pub use Rattle.mate_def.proofs.Joining.{in_front, later, first}
