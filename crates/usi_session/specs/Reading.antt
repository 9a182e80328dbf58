-- Serves private functions alone: what one of them reads of a line, values as they are seen, and
-- that there is something to be done.
use Rattle.std.specs.Prelude.{◌≡◌, ◌≢◌, ◌⊎◌, ◌∷◌, ◌++◌, [], ℕ, true, not, List, Option, Vec, Result, Ok, Err, codes}
use Rattle.std.specs.List.{list_all}
use Rattle.sfen_text.specs.Bytes.{is_space}
use Rattle.bit_boards.specs.Kind.{other}
use Rattle.board_core.specs.Board.{Board, HasDefender}
use Rattle.shogi_rules.specs.Rules.{IsInCheck, IsQuiet}
use Rattle.sfen_text.specs.Faults.{IsReadingOutcome}
use Rattle.std.specs.Global.{Global}
use Rattle.shogi_rules.specs.declared.problem.Problem.{Problem}
use Rattle.usi_session.specs.declared.command.Command.{Command}
use Rattle.usi_session.specs.declared.command.Command.TheVariants as said
use Rattle.usi_session.specs.declared.command.Word.{Word}
use Rattle.usi_session.specs.declared.command.Word.TheVariants as words
use Rattle.usi_session.specs.declared.position.SfenFault.{SfenFault}
use Rattle.usi_session.specs.declared.position.SfenFault.TheVariants as sfens
use Rattle.usi_session.specs.declared.position.MovesFault.{MovesFault}
use Rattle.usi_session.specs.declared.position.MovesFault.TheVariants as moves_faults
use Rattle.usi_session.specs.Fields.{fields_of, bare, behind_field, LacksMoves, GoesUpToMoves}
use Rattle.usi_session.specs.Commands as commands
use Rattle.usi_session.specs.Commands.{CommandView, start_sfen, GiveMoves, IsOption, IsProtocolOption, IsBadOption, AsksForMate}
use Rattle.usi_session.specs.Positions.{Refusal, BadSfen, DefenderInCheck, IllegalMove, NoDefenderKing, LeadTo, HasFirstIllegal, SpellsProblem, IsPositionOutcome}
use Rattle.usi_session.specs.Texts.{told, refusal_text}
use Rattle.usi_session.specs.Sessions.{SessionView, ActView, DoesAt}

-- ---- fields

-- The bytes are spaces.
abbrev pub AreSpaces : List ℕ → Type 0
AreSpaces bytes = list_all is_space bytes ≡ true

-- The text is empty or begins with a space.
abbrev pub EndsField : List ℕ → Type 0
EndsField text = (text ≡ []) ⊎ ((more : List ℕ) × (text ≡ 32 ∷ more))

-- A text is spaces, a field, and what stands behind it.
pub record IsCut (text field behind : List ℕ) : Type 0 where
  pub spaces : List ℕ
  pub parts : text ≡ spaces ++ (field ++ behind)
  pub are_spaces : AreSpaces spaces
  pub some : field ≢ []
  pub no_space : list_all (λ byte. not (is_space byte)) field ≡ true
  pub ends : EndsField behind

-- A text is a front whose fields were seen, none of them `moves`, and a rest.
pub record IsWalked (text rest : List ℕ) : Type 0 where
  pub front : List ℕ
  pub parts : text ≡ front ++ rest
  pub fields : fields_of text ≡ fields_of front ++ fields_of rest
  pub lacks : LacksMoves front
  pub edge : (front ≡ []) ⊎ EndsField rest

-- ---- commands

-- What a line says, as it is seen.
abbrev pub command_seen : Command → CommandView
command_seen said.Usi = commands.Usi
command_seen said.IsReady = commands.IsReady
command_seen (said.SetOption setting number) = commands.SetOption setting number
command_seen said.BadOption = commands.BadOption
command_seen (said.Position sfen moves) = commands.Position sfen.now (fields_of moves.now)
command_seen (said.GoMate millis) = commands.GoMate millis
command_seen said.OtherGo = commands.OtherGo
command_seen said.Quit = commands.Quit
command_seen said.Nothing = commands.Nothing

-- A field is none of the six words.
pub record IsNoWord (field : List ℕ) : Type 0 where
  pub no_usi : field ≢ codes "usi"
  pub no_isready : field ≢ codes "isready"
  pub no_setoption : field ≢ codes "setoption"
  pub no_position : field ≢ codes "position"
  pub no_go : field ≢ codes "go"
  pub no_quit : field ≢ codes "quit"

-- A field is this word, or none of the six.
abbrev pub IsWord : List ℕ → Word → Type 0
IsWord field words.Usi = field ≡ codes "usi"
IsWord field words.IsReady = field ≡ codes "isready"
IsWord field words.SetOption = field ≡ codes "setoption"
IsWord field words.Position = field ≡ codes "position"
IsWord field words.Go = field ≡ codes "go"
IsWord field words.Quit = field ≡ codes "quit"
IsWord field words.Other = IsNoWord field

-- What a line says is this where nothing stands behind its word, and else nothing.
abbrev pub IsAlone : List (List ℕ) → Command → Command → Type 0
IsAlone rest command result = ((rest ≡ []) × (result ≡ command)) ⊎ ((rest ≢ []) × (result ≡ said.Nothing))

-- What stands behind `setoption`.
abbrev pub IsOptionRead : List (List ℕ) → CommandView → Type 0
IsOptionRead rest commands.Usi = ⊥
IsOptionRead rest commands.IsReady = ⊥
IsOptionRead rest (commands.SetOption setting number) = IsOption rest setting number
IsOptionRead rest commands.BadOption = IsBadOption rest
IsOptionRead rest (commands.Position sfen moves) = ⊥
IsOptionRead rest (commands.GoMate millis) = ⊥
IsOptionRead rest commands.OtherGo = ⊥
IsOptionRead rest commands.Quit = ⊥
IsOptionRead rest commands.Nothing = IsProtocolOption rest

-- What stands behind `go`.
abbrev pub IsGoRead : List (List ℕ) → CommandView → Type 0
IsGoRead rest commands.Usi = ⊥
IsGoRead rest commands.IsReady = ⊥
IsGoRead rest (commands.SetOption setting number) = ⊥
IsGoRead rest commands.BadOption = ⊥
IsGoRead rest (commands.Position sfen moves) = ⊥
IsGoRead rest (commands.GoMate millis) = AsksForMate rest millis
IsGoRead rest commands.OtherGo = (millis : Option ℕ) → ¬ AsksForMate rest millis
IsGoRead rest commands.Quit = ⊥
IsGoRead rest commands.Nothing = ⊥

-- Behind `position` stands `startpos`, perhaps with `moves` and these fields.
pub record IsStart (behind : List ℕ) (moves : List (List ℕ)) : Type 0 where
  pub rest : List (List ℕ)
  pub words : fields_of behind ≡ codes "startpos" ∷ rest
  pub given : GiveMoves rest moves

-- Behind `position` stands `sfen`, and this SFEN and these moves behind it.
pub record IsSfen (behind sfen : List ℕ) (moves : List (List ℕ)) : Type 0 where
  pub rest : List (List ℕ)
  pub word : fields_of behind ≡ codes "sfen" ∷ rest
  pub up_to : GoesUpToMoves (bare (behind_field behind)) sfen moves

-- One of these stands behind `position`.
abbrev pub IsPlace : List ℕ → List ℕ → List (List ℕ) → Type 0
IsPlace behind sfen moves = ((sfen ≡ start_sfen) × IsStart behind moves) ⊎ IsSfen behind sfen moves

-- What stands behind `startpos`.
abbrev pub IsStartRead : List (List ℕ) → CommandView → Type 0
IsStartRead rest commands.Usi = ⊥
IsStartRead rest commands.IsReady = ⊥
IsStartRead rest (commands.SetOption setting number) = ⊥
IsStartRead rest commands.BadOption = ⊥
IsStartRead rest (commands.Position sfen moves) = (sfen ≡ start_sfen) × GiveMoves rest moves
IsStartRead rest (commands.GoMate millis) = ⊥
IsStartRead rest commands.OtherGo = ⊥
IsStartRead rest commands.Quit = ⊥
IsStartRead rest commands.Nothing = (moves : List (List ℕ)) → ¬ GiveMoves rest moves

-- What stands behind `position`.
abbrev pub IsPlaceRead : List ℕ → CommandView → Type 0
IsPlaceRead behind commands.Usi = ⊥
IsPlaceRead behind commands.IsReady = ⊥
IsPlaceRead behind (commands.SetOption setting number) = ⊥
IsPlaceRead behind commands.BadOption = ⊥
IsPlaceRead behind (commands.Position sfen moves) = IsPlace behind sfen moves
IsPlaceRead behind (commands.GoMate millis) = ⊥
IsPlaceRead behind commands.OtherGo = ⊥
IsPlaceRead behind commands.Quit = ⊥
IsPlaceRead behind commands.Nothing = (sfen : List ℕ) (moves : List (List ℕ)) → ¬ IsPlace behind sfen moves

-- ---- positions

-- What an SFEN comes to: the problem that it spells, or what is wrong with it.
abbrev pub IsSfenOutcome : List ℕ → Result Problem SfenFault → Type 0
IsSfenOutcome sfen (Ok first) = SpellsProblem sfen first.position
IsSfenOutcome sfen (Err (sfens.BadSfen fault)) = IsReadingOutcome sfen (Err fault)
IsSfenOutcome sfen (Err sfens.DefenderInCheck) = (first : Board) × IsReadingOutcome sfen (Ok first) × IsInCheck first.cells (other first.side)

-- From the first position moves were made up to this one, and these fields are left, of which the
-- first has this number.
pub record IsPlayedTo (first : Board) (fields : List (List ℕ)) (here : Board) (number : ℕ) (rest : List (List ℕ)) : Type 0 where
  pub quiet : IsQuiet here
  pub lead : (last : Board) → LeadTo here rest last → LeadTo first fields last
  pub illegal : (its_number : ℕ) (text : List ℕ) → HasFirstIllegal here number rest its_number text → HasFirstIllegal first 1 fields its_number text

-- The moves of the fields were made: they lead to this position, or this one isn't legal.
abbrev pub ArePlayed : Board → List (List ℕ) → Result Board MovesFault → Type 0
ArePlayed first fields (Ok last) = LeadTo first fields last
ArePlayed first fields (Err (moves_faults.IllegalMove number text)) = HasFirstIllegal first 1 fields number text.now
ArePlayed first fields (Err moves_faults.NoDefenderKing) = ⊥

-- The position is this problem, or its side that isn't to move has no king.
abbrev pub IsLast : Board → Result Problem MovesFault → Type 0
IsLast last (Ok problem) = problem.position ≡ last
IsLast last (Err (moves_faults.IllegalMove number text)) = ⊥
IsLast last (Err moves_faults.NoDefenderKing) = ¬ HasDefender last

-- What the fields come to as moves from a position on: the problem after them, or the first of what
-- is wrong.
abbrev pub IsMovesOutcome : Board → List (List ℕ) → Result Problem MovesFault → Type 0
IsMovesOutcome first fields (Ok problem) = LeadTo first fields problem.position
IsMovesOutcome first fields (Err (moves_faults.IllegalMove number text)) = HasFirstIllegal first 1 fields number text.now
IsMovesOutcome first fields (Err moves_faults.NoDefenderKing) = (last : Board) × LeadTo first fields last × ¬ HasDefender last

-- What is wrong with an SFEN, as it is seen.
abbrev pub sfen_refusal : SfenFault → Refusal
sfen_refusal (sfens.BadSfen fault) = BadSfen fault
sfen_refusal sfens.DefenderInCheck = DefenderInCheck

-- What is wrong with the moves behind it, as it is seen.
abbrev pub moves_refusal : MovesFault → Refusal
moves_refusal (moves_faults.IllegalMove number text) = IllegalMove number text.now
moves_refusal moves_faults.NoDefenderKing = NoDefenderKing

-- A position line comes to something.
abbrev pub HasOutcome : List ℕ → List (List ℕ) → Type 0
HasOutcome sfen moves = (outcome : Result Board Refusal) × IsPositionOutcome sfen moves outcome

-- What a position line comes to: the problem; or the line that says why there is none.
abbrev pub IsPositionTold : List ℕ → List (List ℕ) → Result Problem (Vec ℕ Global) → Type 0
IsPositionTold sfen moves (Ok problem) = IsPositionOutcome sfen moves (Ok problem.position)
IsPositionTold sfen moves (Err line) = (refusal : Refusal) × IsPositionOutcome sfen moves (Err refusal) × (line.items ≡ told (refusal_text refusal))

-- ---- acts

-- At this command a session does something.
abbrev pub DoesSome : SessionView → CommandView → Type 0
DoesSome before command = (act : ActView) × (after : SessionView) × DoesAt before command act after
