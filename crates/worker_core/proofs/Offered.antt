-- What of a worker's turns is offered to the crates above; they cite no other lemma of this one.
pub use Rattle.worker_core.proofs.Reached.{events_snoc, leads_on}
pub use Rattle.worker_core.proofs.TurnsStages.{winds_on, goes_asks}
-- may cross threads
pub use Rattle.worker_core.proofs.Sent.{worker_send}
