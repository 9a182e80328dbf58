-- What of `shortest` is offered to the crates above; they cite no other lemma of this one.
pub use Rattle.cmd_shortest.proofs.Taken.{shortest_is_given}
