-- What words mean, of any command and of any program of commands: what clap gives for them, where
-- it passes the tests after it.
use Rattle.std.specs.Prelude.{◌≡◌, ℕ, Result, Ok, Err, String, map, string_bytes, ◌&&◌, Bool, true, false, List, [], ◌∷◌, Option, Some, None, option_and_then}
use Rattle.std.specs.Prelude.{◌⊎◌, if◌then◌else◌, nat_le, IfOk, IfErr, IsOkAnd, IsSomeAnd, ⊤, codes}
use Rattle.std.specs.Global.{Global}
use Rattle.std.specs.Int.{is_power_of_two}
use Rattle.clap.specs.Words.{App, IsAmong, Kinds, Row, Shape, Text, fault_of, subcommand_of}
use Rattle.clap.specs.Faults.{level_fault}
use Rattle.clap.specs.Simple.{built_leaf}
use Rattle.clap.specs.Walk.{nothing_held, rows_after}
use Rattle.clap.specs.declared.error.kind.ErrorKind.{ErrorKind}
use Rattle.clap.specs.declared.error.kind.ErrorKind.TheVariants.{DisplayHelp, DisplayVersion}
use Rattle.search_limits.specs.Settings.{IsFirstOdd, HaveMoreShards, settings_in}
use Rattle.search_limits.specs.Sizes.{SettingsView}
use Rattle.search_limits.specs.declared.settings.Settings.{Settings}
use Rattle.tsume_words.specs.declared.faults.WordFault.{WordFault}
use Rattle.tsume_words.specs.declared.faults.WordFault.TheVariants.{Clap, NotPowerOfTwo, MoreShardsThanRows, Clash}
use Rattle.tsume_words.specs.declared.faults.Clash.{Clash as ClashKind}
use Rattle.tsume_words.specs.declared.faults.WordsEnd.{WordsEnd}
use Rattle.tsume_words.specs.declared.faults.WordsEnd.TheVariants.{Help, Fault, NoMemory}

-- ---- the tests after clap

-- The tests of what words ask for, after clap's: whether it passes them all, and which is the first
-- that it fails.
pub record Tests (View : Type 0) : Type 1 where
  pub is_sound : View → Bool
  pub IsFirstFailed : WordFault → View → Type 0

-- There are no tests but clap's.
abbrev pub no_tests : {View : Type 0} → Tests View
no_tests = record { is_sound = λ view. true; IsFirstFailed = λ fault view. ⊥ }

-- The rows and the shards are powers of two, and there are no more shards than rows.
abbrev pub are_sound : SettingsView → Bool
are_sound n = is_power_of_two n.rows && (is_power_of_two n.shards && nat_le n.shards n.rows)

-- The numbers fail this test and pass those before it: the rows are a power of two, then the
-- shards, and then there are no more shards than rows.
abbrev pub FailFirst : WordFault → SettingsView → Type 0
FailFirst (NotPowerOfTwo size) n = IsFirstOdd size n
FailFirst MoreShardsThanRows n = HaveMoreShards n
FailFirst (Clap text) n = ⊥
FailFirst (Clash which) n = ⊥

-- The tests of the numbers of a search.
abbrev pub search_tests : {View : Type 0} → (View → SettingsView) → Tests View
search_tests numbers = record {
  is_sound = λ view. are_sound (numbers view);
  IsFirstFailed = λ fault view. FailFirst fault (numbers view);
}

-- No clash was found.
abbrev pub is_without : Option ClashKind → Bool
is_without None = true
is_without (Some which) = false

-- The fault is the clash that was found.
abbrev pub IsClashOf : Option ClashKind → WordFault → Type 0
IsClashOf found (Clash which) = found ≡ Some which
IsClashOf found other = ⊥

-- These tests, and behind them that no two options are given that don't go together, where this
-- finds the first such two.
abbrev pub without_clash : {View : Type 0} → Tests View → (View → Option ClashKind) → Tests View
without_clash tests clash = record {
  is_sound = λ view. tests.is_sound view && is_without (clash view);
  IsFirstFailed = λ fault view. tests.IsFirstFailed fault view ⊎ ((tests.is_sound view ≡ true) × IsClashOf (clash view) fault);
}

-- The outcome of the tests of a search, on these numbers: they are sound and stand in the settings,
-- or else the first test that fails.
abbrev pub AreTested : SettingsView → Result Settings WordFault → Type 0
AreTested n (Ok settings) = (settings_in settings ≡ n) × (are_sound n ≡ true)
AreTested n (Err fault) = FailFirst fault n

-- The laws of tests: what a test stops isn't sound; only one test is the first to fail; and none of
-- them is clap's.
pub record HasTestLaws {View : Type 0} (tests : Tests View) : Type 0 where
  pub unsound : (fault : WordFault) (view : View) → tests.IsFirstFailed fault view → ¬ (tests.is_sound view ≡ true)
  pub one : (fault other : WordFault) (view : View) → tests.IsFirstFailed fault view → tests.IsFirstFailed other view → other ≡ fault
  pub own : (text : String Global) (view : View) → ¬ tests.IsFirstFailed (Clap text) view

-- The outcome of what words ask for, before the tests: it passes them and stands in the answer, or
-- else the first test that it fails. Want of memory is free.
abbrev pub IsOutcome : {View Answer : Type 0} → Tests View → (Answer → View) → View → Result Answer WordsEnd → Type 0
IsOutcome tests view given (Ok answer) = (view answer ≡ given) × (tests.is_sound given ≡ true)
IsOutcome tests view given (Err (Help text)) = ⊥
IsOutcome tests view given (Err (Fault fault)) = tests.IsFirstFailed fault given
IsOutcome tests view given (Err NoMemory) = ⊤

-- ---- the words of a command

-- What the words of a command mean: its clap line; what clap gives for it; what is asked for then,
-- before its tests; the tests; and the file that it reads, none for the standard input or where it
-- reads nothing.
pub record CommandMeaning (View : Type 0) : Type 1 where
  pub line : App
  pub IsGiven : List Row → Type 0
  pub given : List Row → View
  pub tests : Tests View
  pub file : List Row → Option Text

-- A command's line as clap builds it.
abbrev pub shape_of : App → Shape
shape_of line = built_leaf line.top

-- A law of a command: where clap finds no fault in the words behind its name, it gives for it what
-- the command wants of it.
abbrev pub IsGivenWhereTaken : {View : Type 0} → CommandMeaning View → Type 0
IsGivenWhereTaken words = (behind : List Text) → level_fault (shape_of words.line) [] nothing_held behind false [] ≡ []
    → words.IsGiven (rows_after (shape_of words.line).rules [] behind)

-- ---- the words of a program

-- What the words of a program mean: its clap line; what clap gives for a command of a name; what is
-- asked for then, before the tests, none where there is no such command; the tests; and the file
-- that is read.
pub record ProgramMeaning (View : Type 0) : Type 1 where
  pub line : App
  pub IsGiven : Text × List Row → Type 0
  pub named : Text × List Row → Option View
  pub tests : Tests View
  pub file : Text × List Row → Option Text

-- The texts of the words.
abbrev pub texts_of : {A : Type 0} → List (String A) → List Text
texts_of words = map string_bytes words

-- The words that clap reads are the program's name and then the user's.
abbrev pub all_words : List Text → List Text
all_words words = codes "tsume" ∷ words

-- The faults that clap finds in the words: none where it takes them.
abbrev pub clap_faults : App → List Text → Kinds
clap_faults line words = fault_of line (all_words words)

-- Clap takes the words.
abbrev pub IsTakenByClap : App → List Text → Type 0
IsTakenByClap line words = clap_faults line words ≡ []

-- A kind of clap's fault is a request: for help, or for the version.
abbrev pub is_help : ErrorKind → Bool
is_help DisplayHelp = true
is_help DisplayVersion = true
is_help other = false

-- Clap's first fault may be a request for help or for the version: one of the kinds that clap names
-- for it is. (For the command `help` clap names two: that request, and that what follows is no
-- command.)
abbrev pub MayAsk : App → List Text → Type 0
MayAsk line words = (kind : ErrorKind) × IsAmong kind (clap_faults line words) × (is_help kind ≡ true)

-- Clap's first fault may be another: one of the kinds that clap names for it is no request.
abbrev pub MayFail : App → List Text → Type 0
MayFail line words = (kind : ErrorKind) × IsAmong kind (clap_faults line words) × (is_help kind ≡ false)

-- Clap's first fault is a request for help or for the version.
pub record Asks (line : App) (words : List Text) : Type 0 where
  pub may : MayAsk line words
  pub not_refused : ¬ MayFail line words

-- What is asked for stands where clap found no fault.
abbrev pub unless_faulty : {View : Type 0} → Kinds → Option View → Option View
unless_faulty [] asked = asked
unless_faulty (fault ∷ faults) asked = None

-- What the words ask for, before the tests after clap: none where clap refuses them.
abbrev pub given_by : {View : Type 0} → ProgramMeaning View → List Text → Option View
given_by program words =
    unless_faulty (clap_faults program.line words) (option_and_then program.named (subcommand_of program.line (all_words words)))

-- What is asked for stands where it passes the tests.
abbrev pub if_sound : {View : Type 0} → Tests View → View → Option View
if_sound tests asked = if tests.is_sound asked then Some asked else None

-- What the words ask for: none where clap refuses them or a test after it fails.
abbrev pub asked_by : {View : Type 0} → ProgramMeaning View → List Text → Option View
asked_by program words = option_and_then (if_sound program.tests) (given_by program words)

-- The file that the words name: none for the standard input, or where nothing is read.
abbrev pub file_by : {View : Type 0} → ProgramMeaning View → List Text → Option Text
file_by program words = option_and_then program.file (subcommand_of program.line (all_words words))

-- Clap takes the words, and this test after it is the first to fail.
abbrev pub FailsAt : {View : Type 0} → ProgramMeaning View → List Text → WordFault → Type 0
FailsAt program words fault = IsSomeAnd (given_by program words) (program.tests.IsFirstFailed fault)

-- What an error of clap of this kind becomes: help, where it is a request, or else a refusal; or
-- want of memory.
abbrev pub IsClapsEnd : ErrorKind → WordsEnd → Type 0
IsClapsEnd kind (Help text) = is_help kind ≡ true
IsClapsEnd kind (Fault (Clap text)) = is_help kind ≡ false
IsClapsEnd kind (Fault (NotPowerOfTwo size)) = ⊥
IsClapsEnd kind (Fault MoreShardsThanRows) = ⊥
IsClapsEnd kind (Fault (Clash which)) = ⊥
IsClapsEnd kind NoMemory = ⊤

-- Why the words are refused: clap's first fault is no request, or this test after clap is the first
-- to fail.
abbrev pub IsRefused : {View : Type 0} → ProgramMeaning View → List Text → WordFault → Type 0
IsRefused program words (Clap text) = MayFail program.line words
IsRefused program words fault = FailsAt program words fault

-- Why the words give no command: clap's first fault is a request for help or for the version; or
-- they are refused; want of memory says nothing.
abbrev pub IsEnd : {View : Type 0} → ProgramMeaning View → List Text → WordsEnd → Type 0
IsEnd program words (Help text) = MayAsk program.line words
IsEnd program words (Fault fault) = IsRefused program words fault
IsEnd program words NoMemory = ⊤

-- The words ended in help or in the version.
abbrev pub IsHelp : {A : Type 0} → Result A WordsEnd → Type 0
IsHelp (Ok command) = ⊥
IsHelp (Err (Help text)) = ⊤
IsHelp (Err (Fault fault)) = ⊥
IsHelp (Err NoMemory) = ⊥

-- All that a reading of words promises, by what it came to, what is asked for then and which file
-- is read.
pub record IsReading {View Answer : Type 0} (program : ProgramMeaning View) (view : Answer → View) (file_in : Answer → Option Text) (words : List Text) (result : Result Answer WordsEnd) : Type 0 where
  -- What comes back is what the words ask for, and the file that they name.
  pub command : IfOk result (λ answer. asked_by program words ≡ Some (view answer))
  pub file : IfOk result (λ answer. file_in answer ≡ file_by program words)
  -- Help comes only where clap's first fault is a request for it or for the version, clap's refusal
  -- only where it is none, and each other fault only where its test is the first to fail.
  pub ended : IfErr result (IsEnd program words)
  -- Help comes wherever clap's first fault is such a request, but for want of memory.
  pub help : Asks program.line words → IsHelp result ⊎ (result ≡ Err NoMemory)
  -- And each fault after clap comes where its test is the first to fail, but for want of memory.
  pub failed : (fault : WordFault) → FailsAt program words fault → (result ≡ Err (Fault fault)) ⊎ (result ≡ Err NoMemory)
  -- Words that ask for something are not refused, but for want of memory.
  pub complete : (asked : View) → asked_by program words ≡ Some asked → IsOkAnd result (λ answer. view answer ≡ asked) ⊎ (result ≡ Err NoMemory)
