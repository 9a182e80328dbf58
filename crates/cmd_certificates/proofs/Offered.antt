-- What of `check --collection` is offered to the crates above; they cite no other lemma of this
-- one.
pub use Rattle.cmd_certificates.proofs.Promises.{unbegun_collection}
