-- What of `cook` is offered to the crates above; they cite no other lemma of this one.
pub use Rattle.cmd_cook.proofs.Promises.{unbegun_cook}
pub use Rattle.cmd_cook.proofs.Taken.{cook_is_given}
