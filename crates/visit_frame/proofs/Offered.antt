-- What is offered to the crates above; they cite no other lemma of this one.
-- may cross threads
pub use Rattle.visit_frame.proofs.Sent.{frame_send, starts_send}
