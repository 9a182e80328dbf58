-- What of `check` is offered to the crates above; they cite no other lemma of this one.
pub use Rattle.cmd_check.proofs.Promises.{unbegun_check, asked_has_no_fault, posed_has_no_fault}
pub use Rattle.cmd_check.proofs.Taken.{check_is_given, check_test_laws}
