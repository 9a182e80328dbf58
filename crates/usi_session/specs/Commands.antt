-- What a line of the USI protocol says to a session that looks for mates.
use Rattle.std.specs.Prelude.{◌≡◌, ◌≢◌, ◌⊎◌, ◌++◌, ◌∷◌, [], ℕ, List, Option, Some, None, codes}
use Rattle.search_limits.specs.Sizes.{IsFromTo}
use Rattle.search_limits.specs.declared.faults.Setting.{Setting}
use Rattle.usi_session.specs.declared.command.TheConstants.{MOST_MILLIS}
use Rattle.usi_session.specs.Fields.{fields_of, bare, behind_field, moves_word, GoesUpToMoves}
use Rattle.usi_session.specs.Numbers.{Writes}
use Rattle.usi_session.specs.Options.{setting_name}

-- What a line may say.
pub data CommandView : Type 0 where
  Usi : CommandView
  IsReady : CommandView
  SetOption : Setting → ℕ → CommandView
  BadOption : CommandView
  Position : List ℕ → List (List ℕ) → CommandView
  GoMate : Option ℕ → CommandView
  OtherGo : CommandView
  Quit : CommandView
  Nothing : CommandView

-- ---- setoption

-- Behind `setoption` stand `name`, the name of one of the five options, `value`, and a number.
abbrev pub IsOption : List (List ℕ) → Setting → ℕ → Type 0
IsOption rest setting number = (text : List ℕ)
    × (rest ≡ codes "name" ∷ setting_name setting ∷ codes "value" ∷ text ∷ []) × Writes text number

-- Behind `setoption` stand `name` and a name that begins with `USI_`: an option of the protocol's
-- own, which a session needn't have.
abbrev pub IsProtocolOption : List (List ℕ) → Type 0
IsProtocolOption rest = (tail : List ℕ) × (more : List (List ℕ)) × (rest ≡ codes "name" ∷ (codes "USI_" ++ tail) ∷ more)

-- Behind `setoption` stands neither of these.
pub record IsBadOption (rest : List (List ℕ)) : Type 0 where
  pub no_option : (setting : Setting) (number : ℕ) → ¬ IsOption rest setting number
  pub no_protocol_option : ¬ IsProtocolOption rest

-- ---- position

-- The first position of a game, as an SFEN.
abbrev pub start_sfen : List ℕ
start_sfen = codes "lnsgkgsnl/1r5b1/ppppppppp/9/9/9/PPPPPPPPP/1B5R1/LNSGKGSNL b - 1"

-- Behind `startpos` stands nothing, and there are no moves; or `moves` and these fields.
abbrev pub GiveMoves : List (List ℕ) → List (List ℕ) → Type 0
GiveMoves rest moves = ((rest ≡ []) × (moves ≡ [])) ⊎ (rest ≡ moves_word ∷ moves)

-- The line is `position startpos`, perhaps with `moves` and these fields behind it.
pub record IsFromStart (line : List ℕ) (moves : List (List ℕ)) : Type 0 where
  pub rest : List (List ℕ)
  pub words : fields_of line ≡ codes "position" ∷ codes "startpos" ∷ rest
  pub given : GiveMoves rest moves

-- The line is `position sfen` with this SFEN, from the first byte behind these two words that is no
-- space, perhaps with `moves` and these fields behind it.
pub record IsFromSfen (line sfen : List ℕ) (moves : List (List ℕ)) : Type 0 where
  pub rest : List (List ℕ)
  pub words : fields_of line ≡ codes "position" ∷ codes "sfen" ∷ rest
  pub up_to : GoesUpToMoves (bare (behind_field (behind_field line))) sfen moves

-- The line gives this SFEN, or stands for it, and these fields as moves.
abbrev pub IsPositionLine : List ℕ → List ℕ → List (List ℕ) → Type 0
IsPositionLine line sfen moves = ((sfen ≡ start_sfen) × IsFromStart line moves) ⊎ IsFromSfen line sfen moves

-- ---- go

-- Behind `go` stand `mate` and `infinite`, or `mate` and a number of milliseconds, 1 to 86,400,000.
abbrev pub AsksForMate : List (List ℕ) → Option ℕ → Type 0
AsksForMate rest None = rest ≡ codes "mate" ∷ codes "infinite" ∷ []
AsksForMate rest (Some millis) = (text : List ℕ) × (rest ≡ codes "mate" ∷ text ∷ []) × Writes text millis × IsFromTo 1 MOST_MILLIS millis

-- ---- a line

-- The line is none of those that say something: no `usi`, `isready` or `quit` alone, no `go`, no
-- `setoption` but one of an option of the protocol's own, and no position.
pub record SaysNothing (line : List ℕ) : Type 0 where
  pub no_usi : fields_of line ≢ codes "usi" ∷ []
  pub no_isready : fields_of line ≢ codes "isready" ∷ []
  pub no_quit : fields_of line ≢ codes "quit" ∷ []
  pub no_go : (rest : List (List ℕ)) → fields_of line ≢ codes "go" ∷ rest
  pub no_option : (rest : List (List ℕ)) → fields_of line ≡ codes "setoption" ∷ rest → IsProtocolOption rest
  pub no_position : (sfen : List ℕ) (moves : List (List ℕ)) → ¬ IsPositionLine line sfen moves

-- What a line says.
abbrev pub IsCommand : List ℕ → CommandView → Type 0
IsCommand line Usi = fields_of line ≡ codes "usi" ∷ []
IsCommand line IsReady = fields_of line ≡ codes "isready" ∷ []
IsCommand line (SetOption setting number) = (rest : List (List ℕ)) × (fields_of line ≡ codes "setoption" ∷ rest) × IsOption rest setting number
IsCommand line BadOption = (rest : List (List ℕ)) × (fields_of line ≡ codes "setoption" ∷ rest) × IsBadOption rest
IsCommand line (Position sfen moves) = IsPositionLine line sfen moves
IsCommand line (GoMate millis) = (rest : List (List ℕ)) × (fields_of line ≡ codes "go" ∷ rest) × AsksForMate rest millis
IsCommand line OtherGo = (rest : List (List ℕ)) × (fields_of line ≡ codes "go" ∷ rest) × ((millis : Option ℕ) → ¬ AsksForMate rest millis)
IsCommand line Quit = fields_of line ≡ codes "quit" ∷ []
IsCommand line Nothing = SaysNothing line
