-- What of serving is offered to the crates above; they cite no other lemma of this one.
pub use Rattle.usi_serve.proofs.Over.{act_more}
