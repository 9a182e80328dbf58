-- What a session keeps, what each line makes it do, and sessions of several lines.
use Rattle.std.specs.Prelude.{◌≡◌, ◌≢◌, ◌⊎◌, ◌∷◌, [], ℕ, List, Option, Some, None, Result, Ok, Err}
use Rattle.std.specs.Str.Lines.{strip_carriage_return}
use Rattle.board_core.specs.Board.{Board}
use Rattle.search_limits.specs.Sizes.{SettingsView, AreSound}
use Rattle.usi_session.specs.Options.{OptionsView, first_options, with_option, numbers_by}
use Rattle.usi_session.specs.Commands.{CommandView, Usi, IsReady, SetOption, BadOption, Position, GoMate, OtherGo, Quit, Nothing, IsCommand}
use Rattle.usi_session.specs.Positions.{Refusal, IsPositionOutcome}
use Rattle.usi_session.specs.Texts.{names_text, ready_text, told, refusal_text, bad_option_text, other_go_text, no_problem_text}

-- What a session keeps: the problem, where there is one, and the options.
pub record SessionView : Type 0 where
  pub problem : Option Board
  pub options : OptionsView

-- A session before its first line.
abbrev pub first_session : SessionView
first_session = record { problem = None; options = first_options }

-- What a session does at a line: it says lines; it has a problem solved, with these settings, in so
-- many milliseconds or without a limit; it ends; or it does nothing.
pub data ActView : Type 0 where
  Says : List ℕ → ActView
  Solves : Board → SettingsView → Option ℕ → ActView
  Ends : ActView
  DoesNothing : ActView

-- The session stays as it is, and does this.
abbrev pub Only : ActView → SessionView → ActView → SessionView → Type 0
Only this before act after = (act ≡ this) × (after ≡ before)

-- A session gets these options and does nothing, where they make the settings of a search; where
-- they don't, it says so and keeps its own.
abbrev pub TakesOptions : OptionsView → SessionView → ActView → SessionView → Type 0
TakesOptions new before act after =
    (AreSound (numbers_by new) × (act ≡ DoesNothing) × (after ≡ record before { options = new }))
    ⊎ ((¬ AreSound (numbers_by new)) × Only (Says bad_option_text) before act after)

-- A session takes what a position line comes to: the problem, and does nothing; or it says why
-- there is none, and has no problem from then on.
abbrev pub TakesPosition : Result Board Refusal → SessionView → ActView → SessionView → Type 0
TakesPosition (Ok found) before act after = (act ≡ DoesNothing) × (after ≡ record before { problem = Some found })
TakesPosition (Err refusal) before act after = (act ≡ Says (told (refusal_text refusal))) × (after ≡ record before { problem = None })

-- What a session does that is asked for a mate: it has its problem solved with its options, where
-- there is one.
abbrev pub mate_act : Option Board → OptionsView → Option ℕ → ActView
mate_act None options millis = Says no_problem_text
mate_act (Some problem) options millis = Solves problem (numbers_by options) millis

-- What a session does at a command, and what it keeps then.
abbrev pub DoesAt : SessionView → CommandView → ActView → SessionView → Type 0
DoesAt before Usi act after = Only (Says names_text) before act after
DoesAt before IsReady act after = Only (Says ready_text) before act after
DoesAt before (SetOption setting number) act after = TakesOptions (with_option setting number before.options) before act after
DoesAt before BadOption act after = Only (Says bad_option_text) before act after
DoesAt before (Position sfen moves) act after = (outcome : Result Board Refusal) × IsPositionOutcome sfen moves outcome × TakesPosition outcome before act after
DoesAt before (GoMate millis) act after = Only (mate_act before.problem before.options millis) before act after
DoesAt before OtherGo act after = Only (Says other_go_text) before act after
DoesAt before Quit act after = Only Ends before act after
DoesAt before Nothing act after = Only DoesNothing before act after

-- What a session does at a line, and what it keeps then. A carriage return at the line's end
-- doesn't count.
pub record IsAct (before : SessionView) (line : List ℕ) (act : ActView) (after : SessionView) : Type 0 where
  pub command : CommandView
  pub said : IsCommand (strip_carriage_return line) command
  pub done : DoesAt before command act after

-- A session that does these acts at these lines, one at each, up to the one at which it ends; and
-- what it keeps then.
abbrev pub SessionFrom : SessionView → List (List ℕ) → List ActView → SessionView → Type 0
SessionFrom before [] acts after = (acts ≡ []) × (after ≡ before)
SessionFrom before (line ∷ lines) [] after = ⊥
SessionFrom before (line ∷ lines) (act ∷ acts) after = (next : SessionView) × IsAct before line act next
    × (((act ≡ Ends) × (acts ≡ []) × (after ≡ next)) ⊎ ((act ≢ Ends) × SessionFrom next lines acts after))

-- The acts of a session over lines, from its beginning.
abbrev pub SessionOf : List (List ℕ) → List ActView → Type 0
SessionOf lines acts = (after : SessionView) × SessionFrom first_session lines acts after
