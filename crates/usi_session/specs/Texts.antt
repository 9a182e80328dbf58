-- The lines that a session says.
use Rattle.std.specs.Prelude.{◌∷◌, ◌++◌, [], ℕ, List, codes}
use Rattle.std.specs.Fmt.{decimal}
use Rattle.sfen_text.specs.FaultText.{fault_text, bad_position_text}
use Rattle.board_core.specs.declared.build.BadPosition.TheVariants as positions
use Rattle.search_limits.specs.declared.faults.Setting.{Setting}
use Rattle.search_limits.specs.declared.faults.Setting.TheVariants.{Workers, Expansions, Room, Rows, Shards}
use Rattle.usi_session.specs.Options.{first_options, numbers_by, setting_name, number_in, least_of, most_of}
use Rattle.usi_session.specs.Positions.{Refusal, BadSfen, DefenderInCheck, IllegalMove, NoDefenderKing}

-- A line with its line feed.
abbrev pub ended : List ℕ → List ℕ
ended text = text ++ 10 ∷ []

-- A line that tells of an option: its name, that it is a number, the one that a session begins
-- with, the least and the greatest.
unfoldable pub option_line : Setting → List ℕ
option_line setting =
    ended (codes "option name " ++ setting_name setting
    ++ codes " type spin default " ++ decimal (number_in (numbers_by first_options) setting)
    ++ codes " min " ++ decimal (least_of setting)
    ++ codes " max " ++ decimal (most_of setting))

-- The five options.
abbrev pub options_text : List ℕ
options_text = option_line Workers ++ option_line Expansions ++ option_line Room ++ option_line Rows ++ option_line Shards

-- Who the program is, its options, and that this is all.
abbrev pub names_text : List ℕ
names_text = ended (codes "id name tsume") ++ ended (codes "id author tsume") ++ options_text ++ ended (codes "usiok")

-- That the session is ready.
abbrev pub ready_text : List ℕ
ready_text = ended (codes "readyok")

-- What the session tells a reader.
abbrev pub told : List ℕ → List ℕ
told text = ended (codes "info string " ++ text)

-- Why a position line makes no problem.
abbrev pub refusal_text : Refusal → List ℕ
refusal_text (BadSfen fault) = fault_text fault
refusal_text DefenderInCheck = codes "defender in check"
refusal_text (IllegalMove number text) = codes "illegal move " ++ decimal number ++ 32 ∷ text
refusal_text NoDefenderKing = bad_position_text positions.NoDefenderKing

-- That an option isn't one of the five, isn't given as `name NAME value NUMBER`, or makes no
-- settings with the others.
abbrev pub bad_option_text : List ℕ
bad_option_text = told (codes "bad option")

-- That the session looks for mates alone.
abbrev pub other_go_text : List ℕ
other_go_text = told (codes "only go mate")

-- That there is no problem to be solved.
abbrev pub no_problem_text : List ℕ
no_problem_text = ended (codes "checkmate notimplemented")
