-- What of `solve` is offered to the crates above; they cite no other lemma of this one.
pub use Rattle.cmd_solve.proofs.Armed.{told_armed}
pub use Rattle.cmd_solve.proofs.Promises.{unbegun_solve}
pub use Rattle.cmd_solve.proofs.Taken.{solve_is_given, solve_test_laws}
