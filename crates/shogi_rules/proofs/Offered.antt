-- What of turns, kings and what moves keep is offered to the crates above; they cite no other lemma
-- of this one.
pub use Rattle.shogi_rules.proofs.ToMove.{turn_after, after_check, after_evasion}
pub use Rattle.shogi_rules.proofs.Moves.{kings_dropped}
pub use Rattle.shogi_rules.proofs.KeptAfter.{kept_after}
