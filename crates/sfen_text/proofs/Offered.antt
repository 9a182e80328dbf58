-- What of pieces is offered to the crates above; they cite no other lemma of this one.
pub use Rattle.sfen_text.proofs.Filling.{promoted_is}
