-- What of the words of `collection` is offered to the crates above; they cite no other lemma of
-- this one.
pub use Rattle.cmd_collection.proofs.Taken.{collection_is_given, collection_test_laws}
