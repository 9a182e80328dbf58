-- What of the words of `survey` is offered to the crates above; they cite no other lemma of this
-- one.
pub use Rattle.cmd_survey.proofs.Taken.{survey_is_given, survey_test_laws}
