-- What `survey` means, and what it promises in plain words.
use Rattle.std.specs.Prelude.{◌≡◌}
use Rattle.cmd_survey.specs.Words.{SurveyView}
use Rattle.survey.specs.Tally.{AreTallied}
use Rattle.one_run.specs.declared.written.Written.{Written}
use Rattle.one_run.specs.declared.written.Written.TheVariants.{Whole}
use Rattle.one_run.specs.Outside.{Shown}
use Rattle.one_run.specs.Written.{Statement, IsStatedRun}
use Rattle.cmd_survey.specs.Summary.{summary_text}
use Rattle.cmd_survey.specs.declared.summary.Summary.{Summary}

-- A survey's summary is true: it begins with the number that was asked for, and its tallies are
-- those of as many numbers as were asked for.
pub record IsSurvey (range : SurveyView) (summary : Summary) : Type 0 where
  pub seed : summary.seed ≡ range.seed
  pub tallied : AreTallied range.seed range.count range.expansions summary.tallies

-- What `survey` means: an answer is a true summary of the numbers that were asked for, and its text
-- is the summary's.
abbrev pub survey_meaning : SurveyView → Statement Summary
survey_meaning range = record { IsTrue = IsSurvey range; text_of = summary_text }

-- A run of `survey` kept all that it promises, clause by clause, for whoever hands it on.
pub record IsSurveyRun (range : SurveyView) (sink : Shown) (written : Written Summary) : Type 0 where
  pub surveyed : (summary : Summary) → written ≡ Whole summary → IsSurvey range summary
  pub run : IsStatedRun (survey_meaning range) sink written
