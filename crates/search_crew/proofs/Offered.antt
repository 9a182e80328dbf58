-- What is offered to the crates above; they cite no other lemma of this one.
pub use Rattle.search_crew.proofs.Crews.{all_of}
