-- What a run of the program did: what the command promises that the words asked for.
use Rattle.std.specs.Prelude.{◌≡◌, ◌⊎◌, true, false, List, Option, Some, None, String, ⊤, drop, string_bytes, take}
use Rattle.std.specs.Global.{Global}
use Rattle.clap.specs.Words.{Text as Word}
use Rattle.program_words.specs.Commands.{CommandView}
use Rattle.program_words.specs.Commands.CommandView.{to_solve, to_shortest, to_cook, to_check, to_survey, to_collect, to_judge, to_record, to_upgrade, to_usi}
use Rattle.program_words.specs.Meaning.{IsRefusalOf, MayAskForHelp}
use Rattle.app_texts.specs.declared.fault.ProblemFault.{ProblemFault}
use Rattle.one_run.specs.declared.written.Written.TheVariants.{Whole, NoMemory as HelpNoMemory}
use Rattle.one_run.specs.Outside.{Shown, IsUntouched}
use Rattle.one_run.specs.Stops.{Signals, AreUnused}
use Rattle.one_run.specs.Written.{Statement, IsStatedRun}
use Rattle.cmd_solve.specs.Headline.{IsSolveRun}
use Rattle.cmd_library.specs.Headline.{IsLibraryRun}
use Rattle.cmd_shortest.specs.Headline.{IsShortestRun}
use Rattle.cmd_cook.specs.Headline.{IsCookRun}
use Rattle.cmd_check.specs.Asked.{IsFaultInWords, AnyProblemIsSound}
use Rattle.cmd_check.specs.Headline.{IsCheckRun}
use Rattle.cmd_bound.specs.Headline.{IsBoundRun}
use Rattle.cmd_certificates.specs.Headline.{IsCollectionRun as IsCertificatesRun}
use Rattle.cmd_survey.specs.Headline.{IsSurveyRun}
use Rattle.cmd_collection.specs.Headline.{IsCollectionRun}
use Rattle.cmd_record.specs.Headline.{IsRecordRun}
use Rattle.cmd_upgrade.specs.Headline.{IsUpgradeRun}
use Rattle.cmd_solution.specs.Headline.{IsSolutionRun}
use Rattle.cmd_usi.specs.Headline.{IsUsiRun}
use Rattle.tsume_app.specs.declared.ended.Ended.{Ended}
use Rattle.tsume_app.specs.declared.ended.Ended.TheVariants as ends
use Rattle.tsume_app.specs.declared.ended.Refusal.{Refusal}
use Rattle.tsume_app.specs.declared.ended.Refusal.TheVariants.{NotUtf8, Words, Asked, NoMemory}

-- The words ask to check for a problem whose text is none: this is its first fault.
abbrev pub GivesFault : Option CommandView → ProblemFault → Type 0
GivesFault None fault = ⊥
GivesFault (Some (to_check asked)) fault = IsFaultInWords asked.problem fault
GivesFault (Some other) fault = ⊥

-- The words ask to check for a problem whose text is one, or for none.
abbrev pub GivesProblem : Option CommandView → Type 0
GivesProblem None = ⊥
GivesProblem (Some (to_check asked)) = AnyProblemIsSound asked.problem
GivesProblem (Some other) = ⊥

-- Why no command was begun: the words are refused with this cause; or they give a problem that is
-- none; or memory was wanted, which is free. (That a word is no UTF-8 is told before the program's
-- run.)
abbrev pub IsRefusal : List Word → Option CommandView → Refusal → Type 0
IsRefusal words view NotUtf8 = ⊥
IsRefusal words view (Words fault) = (view ≡ None) × IsRefusalOf words fault
IsRefusal words view (Asked fault) = GivesFault view fault × ¬ GivesProblem view
IsRefusal words view NoMemory = ⊤

-- Nothing was read, and no stop used.
abbrev pub IsUnasked : Signals → Shown → Type 0
IsUnasked stops source = IsUntouched source × AreUnused stops

-- The first of the stops alone.
abbrev pub first_of : Signals → Signals
first_of stops = record { before = take 1 stops.before; after = take 1 stops.after }

-- The stops behind the first.
abbrev pub others_of : Signals → Signals
others_of stops = record { before = drop 1 stops.before; after = drop 1 stops.after }

-- What a request for help or for the version means: its text is clap's.
abbrev pub help_meaning : Statement (String Global)
help_meaning = record { IsTrue = λ text. ⊤; text_of = string_bytes }

-- What a run kept, by how it ended and what the words asked for: what the command promises of its
-- run, where it ended as that command does; and no other command ends a run. Where no command was
-- begun, words that ask for none may ask for help, whose text was written; or there was a refusal,
-- and nothing was written.
abbrev pub IsKept : Ended → Option CommandView → List Word → Signals → Shown → Shown → Type 0
IsKept (ends.Solve ended) (Some (to_solve asked)) words stops source sink =
    (asked.library ≡ false) × IsSolveRun asked.solve stops source sink ended
IsKept (ends.Library ended) (Some (to_solve asked)) words stops source sink =
    (asked.library ≡ true) × IsLibraryRun asked.solve stops source sink ended
IsKept (ends.Shortest ended) (Some (to_shortest asked)) words stops source sink =
    IsShortestRun asked (first_of stops) source sink ended × AreUnused (others_of stops)
IsKept (ends.Cook ended) (Some (to_cook asked)) words stops source sink =
    IsCookRun asked stops source sink ended
IsKept (ends.Check ended) (Some (to_check asked)) words stops source sink =
    (asked.collection ≡ false) × (asked.bound ≡ false) × IsCheckRun asked.problem source sink ended × AreUnused stops
IsKept (ends.Bound ended) (Some (to_check asked)) words stops source sink =
    (asked.collection ≡ false) × (asked.bound ≡ true) × IsBoundRun asked.problem source sink ended × AreUnused stops
IsKept (ends.Certificates ended) (Some (to_check asked)) words stops source sink =
    (asked.collection ≡ true) × IsCertificatesRun source sink ended × AreUnused stops
IsKept (ends.Survey ended) (Some (to_survey range)) words stops source sink =
    IsSurveyRun range sink ended × IsUnasked stops source
IsKept (ends.Collection ended) (Some (to_collect asked)) words stops source sink =
    IsCollectionRun asked source sink ended × AreUnused stops
IsKept (ends.Solution ended) (Some to_judge) words stops source sink =
    IsSolutionRun source sink ended × AreUnused stops
IsKept (ends.Record ended) (Some to_record) words stops source sink =
    IsRecordRun source sink ended × AreUnused stops
IsKept (ends.Upgrade ended) (Some to_upgrade) words stops source sink =
    IsUpgradeRun source sink ended × AreUnused stops
IsKept (ends.Usi talked) (Some to_usi) words stops source sink = IsUsiRun stops source sink talked
IsKept (ends.Help ended) None words stops source sink =
    MayAskForHelp words × IsStatedRun help_meaning sink ended × IsUnasked stops source
IsKept (ends.Refused refusal) view words stops source sink =
    IsRefusal words view refusal × IsUnasked stops source × IsUntouched sink
IsKept ended view words stops source sink = ⊥

-- The run ended with help, or with the version, written whole.
abbrev pub GivesHelp : Ended → Type 0
GivesHelp ended = (text : String Global) × (ended ≡ ends.Help (Whole text))

-- The run ended for want of memory before a command was begun.
abbrev pub WantsMemory : Ended → Type 0
WantsMemory ended = (ended ≡ ends.Refused NoMemory) ⊎ (ended ≡ ends.Help HelpNoMemory)
