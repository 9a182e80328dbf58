-- What is wrong with a position line, by its parts.
use Rattle.std.proofs.Common.{ℕ, List, Err}
use Rattle.board_core.specs.Board.{Board}
use Rattle.usi_session.specs.Positions.{SpellsProblem, IsPositionOutcome}
use Rattle.usi_session.specs.declared.position.SfenFault.{SfenFault}
use Rattle.usi_session.specs.declared.position.SfenFault.TheVariants as sfens
use Rattle.usi_session.specs.declared.position.MovesFault.{MovesFault}
use Rattle.usi_session.specs.declared.position.MovesFault.TheVariants as moves_faults
use Rattle.usi_session.specs.Reading.{IsSfenOutcome, IsMovesOutcome, sfen_refusal, moves_refusal}

pub sfen-refused : (sfen : List ℕ) (moves : List (List ℕ)) (fault : SfenFault) → IsSfenOutcome sfen (Err fault) → IsPositionOutcome sfen moves (Err (sfen_refusal fault))
sfen-refused sfen moves (sfens.BadSfen fault) is = is
sfen-refused sfen moves sfens.DefenderInCheck is = is

pub moves-refused : (sfen : List ℕ) (moves : List (List ℕ)) (first : Board) (fault : MovesFault) → SpellsProblem sfen first → IsMovesOutcome first moves (Err fault)
    → IsPositionOutcome sfen moves (Err (moves_refusal fault))
moves-refused sfen moves first (moves_faults.IllegalMove number text) spells is = (first, spells, is)
moves-refused sfen moves first moves_faults.NoDefenderKing spells is = (first, spells, is)
