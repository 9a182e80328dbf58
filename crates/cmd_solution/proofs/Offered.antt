-- What of the words is offered to the crates above; they cite no other lemma of this one.
pub use Rattle.cmd_solution.proofs.Taken.{solution_is_given, solution_test_laws}
