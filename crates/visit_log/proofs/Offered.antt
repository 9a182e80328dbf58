-- What of visits is offered to the crates above; they cite no other lemma of this one.
pub use Rattle.visit_log.proofs.Drawn.{length-entered, size_length}
pub use Rattle.visit_log.proofs.SoundChildren.{none_decides}
pub use Rattle.visit_log.proofs.Paths.{bare_path}
pub use Rattle.visit_log.proofs.Stands.{winds_starved, made_low}
