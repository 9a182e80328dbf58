-- What is offered to the crates above; they cite no other lemma of this one.
pub use Rattle.table_port.proofs.Asked.{ran_some}
