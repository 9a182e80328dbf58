-- What of what is written is offered to the crates above; they cite no other lemma of this one.
pub use Rattle.tsume_io.proofs.Pieces.{GrewBy-nil, GrewBy-append}
