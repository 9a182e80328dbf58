-- What the words of the command line mean: what the command's own words do that they name.
use Rattle.std.specs.Prelude.{Result, Bool, true, List, Option, Some, None, option_map, string_bytes}
use Rattle.clap.specs.Words.{Text}
use Rattle.search_limits.specs.Sizes.{SettingsView}
use Rattle.tsume_words.specs.Meaning.{Asks, FailFirst, IsEnd, IsReading, IsRefused, FailsAt, MayAsk, ProgramMeaning, Tests, are_sound, asked_by, file_by, without_clash}
use Rattle.tsume_words.specs.declared.faults.WordFault.{WordFault}
use Rattle.tsume_words.specs.declared.faults.WordsEnd.{WordsEnd}
use Rattle.program_words.specs.declared.command.Asked.{Asked}
use Rattle.program_words.specs.Commands.{CommandView, clash_in, commands, numbers_of, command_view}
use Rattle.program_words.specs.Line.{tsume_line}

-- Numbers that are given pass the tests of a search.
abbrev pub are_sound_if_any : Option SettingsView → Bool
are_sound_if_any None = true
are_sound_if_any (Some numbers) = are_sound numbers

-- Numbers are given, and this test of a search is the first that they fail.
abbrev pub FailFirstIfAny : WordFault → Option SettingsView → Type 0
FailFirstIfAny fault None = ⊥
FailFirstIfAny fault (Some numbers) = FailFirst fault numbers

-- The tests of the numbers of its search.
abbrev pub number_tests : Tests CommandView
number_tests = record {
  is_sound = λ view. are_sound_if_any (numbers_of view);
  IsFirstFailed = λ fault view. FailFirstIfAny fault (numbers_of view);
}

-- The tests of what words ask for are those of the numbers of its search, and behind them that no
-- two options are given that don't go together.
abbrev pub command_tests : Tests CommandView
command_tests = without_clash number_tests clash_in

-- What the words of the program mean: what those of its commands do.
abbrev pub program : ProgramMeaning CommandView
program = record {
  line = tsume_line;
  IsGiven = commands.IsGiven;
  named = commands.named;
  tests = command_tests;
  file = commands.file;
}

-- What the words ask for: none where clap refuses them or a test after it fails.
abbrev pub command_of : List Text → Option CommandView
command_of words = asked_by program words

-- The file that the words name: none for the standard input, or where nothing is read.
abbrev pub file_of : List Text → Option Text
file_of words = file_by program words

-- Clap's first fault is a request for help or for the version.
abbrev pub AsksForHelp : List Text → Type 0
AsksForHelp words = Asks tsume_line words

-- Clap's first fault may be a request for help or for the version.
abbrev pub MayAskForHelp : List Text → Type 0
MayAskForHelp words = MayAsk tsume_line words

-- Clap takes the words, and this test after it is the first to fail.
abbrev pub FailsFirst : List Text → WordFault → Type 0
FailsFirst words fault = FailsAt program words fault

-- Why the words are refused: clap's first fault is no request, or this test after clap is the first
-- to fail.
abbrev pub IsRefusalOf : List Text → WordFault → Type 0
IsRefusalOf words fault = IsRefused program words fault

-- Why the words give no command: clap's first fault is a request for help or for the version; or
-- they are refused; want of memory says nothing.
abbrev pub IsEndFor : List Text → WordsEnd → Type 0
IsEndFor words end = IsEnd program words end

-- What is asked for in all.
abbrev pub asked_view : Asked → CommandView
asked_view asked = command_view asked.command

-- The file that is read.
abbrev pub asked_file : Asked → Option Text
asked_file asked = option_map string_bytes asked.file

-- The reading of the words came to this, and kept all that it promises.
abbrev pub IsRead : List Text → Result Asked WordsEnd → Type 0
IsRead words result = IsReading program asked_view asked_file words result
