-- What of `usi` is offered to the crates above; they cite no other lemma of this one.
pub use Rattle.cmd_usi.proofs.Taken.{usi_is_given}
