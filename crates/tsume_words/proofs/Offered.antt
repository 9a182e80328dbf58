-- What of the reading of words is offered to the crates above; they cite no other lemma of this
-- one.
pub use Rattle.tsume_words.proofs.Builds.{all_set, same_app, same_app_after, stays_local}
pub use Rattle.tsume_words.proofs.Ends.{clash_laws, given_where_taken, no_test_laws, promised_by_clap, promised_by_outcome, search_test_laws}
pub use Rattle.tsume_words.proofs.Rows.{Each, IsFirst}
pub use Rattle.tsume_words.proofs.Taken.{GivesIfNamed, GivesValue, flag_given, help_alone, level_gives, number_given, number_if_any, taken_gives}
pub use Rattle.tsume_words.proofs.Texts.{readable, readable_if, within_if, within_is}
