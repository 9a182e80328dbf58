-- What of a run is offered to the crates above; they cite no other lemma of this one.
pub use Rattle.one_run.proofs.Endings.{took_it, unbegun_run}
pub use Rattle.one_run.proofs.SoFar.{between, serial_run, so_far_counted, so_far_cut, so_far_more, so_far_none, so_far_wanted, so_far_whole, unread_run}
pub use Rattle.one_run.proofs.Stating.{stated_run, whole_is_true}
