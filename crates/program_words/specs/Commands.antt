-- The commands of the program: what the words of each mean, and what is asked for by them.
use Rattle.std.specs.Prelude.{◌≡◌, ◌⊎◌, List, Option, Some, None, codes, if◌then◌else◌}
use Rattle.std.specs.Str.{bytes_eq}
use Rattle.clap.specs.Words.{App, Row, Text, with_subcommand}
use Rattle.search_limits.specs.Sizes.{SettingsView}
use Rattle.tsume_words.specs.Meaning.{CommandMeaning}
use Rattle.tsume_words.specs.declared.faults.Clash.{Clash}
use Rattle.cmd_solve.specs as solve
use Rattle.cmd_shortest.specs as shortest
use Rattle.cmd_cook.specs as cook
use Rattle.cmd_check.specs as check
use Rattle.cmd_survey.specs as survey
use Rattle.cmd_collection.specs as collection
use Rattle.cmd_solution.specs as solution
use Rattle.cmd_record.specs as record_command
use Rattle.cmd_upgrade.specs as upgrade
use Rattle.cmd_usi.specs as session
use Rattle.program_words.specs.declared.command.Command.{Command}
use Rattle.program_words.specs.declared.command.Command.TheVariants as asks

-- What words ask for: what one of the commands is asked.
pub data CommandView : Type 0 where
  to_solve : solve.Words.SolveWordsView → CommandView
  to_shortest : shortest.Asked.ShortestView → CommandView
  to_cook : cook.Asked.CookView → CommandView
  to_check : check.Words.CheckView → CommandView
  to_survey : survey.Words.SurveyView → CommandView
  to_collect : collection.Words.CollectView → CommandView
  to_judge : CommandView
  to_record : CommandView
  to_upgrade : CommandView
  to_usi : CommandView

-- What a command is asked.
abbrev pub command_view : Command → CommandView
command_view (asks.Solve asked) = to_solve (solve.Words.solve_view asked)
command_view (asks.Shortest asked) = to_shortest (shortest.Asked.shortest_in asked)
command_view (asks.Cook asked) = to_cook (cook.Asked.cook_in asked)
command_view (asks.Check asked) = to_check (check.Words.check_view asked)
command_view (asks.Survey asked) = to_survey (survey.Words.survey_in asked)
command_view (asks.Collection asked) = to_collect (collection.Asked.collect_in asked)
command_view (asks.Solution asked) = to_judge
command_view (asks.Record asked) = to_record
command_view (asks.Upgrade asked) = to_upgrade
command_view (asks.Usi asked) = to_usi

-- The numbers of the search that is asked for, where the words give them: they are tested.
abbrev pub numbers_of : CommandView → Option SettingsView
numbers_of (to_solve asked) = Some asked.solve.settings
numbers_of (to_cook asked) = Some asked.solve.settings
numbers_of (to_collect asked) = Some asked.settings
numbers_of other = None

-- The two options that are asked for and don't go together, the first such.
abbrev pub clash_in : CommandView → Option Clash
clash_in (to_solve asked) = solve.Words.clash_of asked
clash_in (to_check asked) = check.Words.clash_of asked
clash_in other = None

-- What the words of commands are: the program's line with theirs, in their order; and by the name
-- of one and what clap found for it, what it wants of clap, what is asked for, before its tests,
-- and the file that it reads.
pub record Offer : Type 1 where
  pub line : App → App
  pub IsGiven : Text × List Row → Type 0
  pub named : Text × List Row → Option CommandView
  pub file : Text × List Row → Option Text

-- No command.
abbrev pub nothing_more : Offer
nothing_more = record {
  line = λ line. line;
  IsGiven = λ found. ⊥;
  named = λ found. None;
  file = λ found. None;
}

-- The command of this name, whose words mean this and become this view, before others.
abbrev pub command : {View : Type 0} → Text → CommandMeaning View → (View → CommandView) → Offer → Offer
command name words view others = record {
  line = λ line. others.line (with_subcommand line words.line.top);
  IsGiven = λ found. ((found.0 ≡ name) × words.IsGiven found.1) ⊎ others.IsGiven found;
  named = λ found. if bytes_eq found.0 name then Some (view (words.given found.1)) else others.named found;
  file = λ found. if bytes_eq found.0 name then words.file found.1 else others.file found;
}

-- The commands, in the order of the help.
abbrev pub commands : Offer
commands =
    let more = nothing_more in
    let more = command (codes "usi") session.Words.usi_words (λ asked. to_usi) more in
    let more = command (codes "upgrade") upgrade.Words.upgrade_words (λ asked. to_upgrade) more in
    let more = command (codes "record") record_command.Words.record_words (λ asked. to_record) more in
    let more = command (codes "solution") solution.Words.solution_words (λ asked. to_judge) more in
    let more = command (codes "collection") collection.Words.collection_words to_collect more in
    let more = command (codes "survey") survey.Words.survey_words to_survey more in
    let more = command (codes "check") check.Words.check_words to_check more in
    let more = command (codes "cook") cook.Words.cook_words to_cook more in
    let more = command (codes "shortest") shortest.Words.shortest_words to_shortest more in
    let more = command (codes "solve") solve.Words.solve_words to_solve more in
    more
