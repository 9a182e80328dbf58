-- What of readings, first faults and hands is offered to the crates above; they cite no other lemma
-- of this one.
pub use Rattle.kif_text.proofs.Outcome.{spelled_outcome}
pub use Rattle.kif_text.proofs.First.{none_in_more, none_in_nothing, none_or_first}
pub use Rattle.kif_text.proofs.Hands.{count_more, none_named, nothing_named}
