-- What of `solve --library` is offered to the crates above; they cite no other lemma of this one.
pub use Rattle.cmd_library.proofs.Promises.{unbegun_library}
