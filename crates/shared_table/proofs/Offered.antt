-- What is offered to the crates above; they cite no other lemma of this one.
pub use Rattle.shared_table.proofs.Seats.{same_looked}
