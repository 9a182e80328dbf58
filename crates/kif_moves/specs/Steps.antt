-- Serves private functions alone: what one of them says of a part of a text.
use Rattle.std.specs.Prelude.{◌≡◌, ℕ, List, true, false, Option, Some, None, Result, Ok, Err}
use Rattle.std.specs.Str.{chars}
use denote.Ref.{Bor}
use Rattle.bit_boards.specs.declared.square.Square.{Square}
use Rattle.bit_boards.specs.declared.piece.Piece.{Piece}
use Rattle.bit_boards.specs.declared.piece.Side.{Side}
use Rattle.board_core.specs.declared.moves.Move.{Move}
use Rattle.board_core.specs.Board.{Board}
use Rattle.kif_moves.specs.declared.fault.KifMovesFault.{KifMovesFault}
use Rattle.kif_moves.specs.declared.fault.KifMovesEnd.{KifMovesEnd}
use Rattle.kif_moves.specs.declared.fault.KifMovesEnd.TheVariants as ends
use Rattle.kif_moves.specs.declared.word.Way.{Way}
use Rattle.kif_moves.specs.declared.word.Way.TheVariants as seen
use Rattle.kif_moves.specs.declared.judge.Step.{Step}
use Rattle.kif_moves.specs.declared.judge.Step.TheVariants as steps
use Rattle.kif_moves.specs.Words as words
use Rattle.kif_moves.specs.Lines.{Line, is_skipped, is_end}
use Rattle.kif_moves.specs.Playing.{Says, IsInTurn, AreInTurn, SayAll, HasLineFault, HasFirstLineFault}

-- What stands behind something that was named, or that nothing was.
abbrev pub IsTaken : {T U : Type 0} → (T → U) → Option (U × List ℕ) → Option (T × Bor (List ℕ)) → Type 0
IsTaken see named None = named ≡ None
IsTaken see named (Some found) = named ≡ Some (see found.0, chars found.1.now)

-- The number of a square, where there is one.
abbrev pub last_number : Option Square → Option ℕ
last_number None = None
last_number (Some square) = Some square.number

-- How a piece moves, as it was seen.
abbrev pub way_seen : Way → words.Way
way_seen seen.Dropped = words.dropped
way_seen (seen.Gone from promote) = words.gone from.number promote

-- What a word names was read: a move, and the piece's name.
abbrev pub IsWordRead : Option words.Spoken → Option (Move × Piece) → Type 0
IsWordRead spoken None = spoken ≡ None
IsWordRead spoken (Some found) = (s : words.Spoken) × (spoken ≡ Some s) × (s.name ≡ found.1) × words.IsMoveOf s found.0

-- A line was judged: it is skipped, ends the moves, or says a check or an evasion; or it has the
-- fault.
abbrev pub IsJudged : Side → Board → Option ℕ → Line → Result Step KifMovesFault → Type 0
IsJudged attacker b last line (Ok steps.Skipped) = is_skipped line.text ≡ true
IsJudged attacker b last line (Ok steps.Ended) = (is_skipped line.text ≡ false) × (is_end line.text ≡ true)
IsJudged attacker b last line (Ok (steps.Played move)) = (is_skipped line.text ≡ false) × (is_end line.text ≡ false)
    × Says b last line.text move × IsInTurn attacker b move
IsJudged attacker b last line (Err fault) = (is_skipped line.text ≡ false) × (is_end line.text ≡ false) × HasLineFault attacker b last line fault

-- The move that a line names was judged: it is a check or an evasion; or the line has the fault.
abbrev pub IsMoveJudged : Side → Board → Option ℕ → Line → Result Step KifMovesFault → Type 0
IsMoveJudged attacker b last line (Ok steps.Skipped) = ⊥
IsMoveJudged attacker b last line (Ok steps.Ended) = ⊥
IsMoveJudged attacker b last line (Ok (steps.Played move)) = Says b last line.text move × IsInTurn attacker b move
IsMoveJudged attacker b last line (Err fault) = HasLineFault attacker b last line fault

-- From the position on the lines say these moves, checks and evasions in turn; or the first one
-- with a fault has this one.
abbrev pub IsPlayed : Side → Board → Option ℕ → List Line → Result (List Move) KifMovesFault → Type 0
IsPlayed attacker b last lines (Ok moves) = SayAll b last lines moves × AreInTurn attacker b moves
IsPlayed attacker b last lines (Err fault) = HasFirstLineFault attacker b last lines fault

-- The same of what ends a call without moves, which may be want of memory.
abbrev pub IsPlayEnd : Board → List Line → KifMovesEnd → Type 0
IsPlayEnd b lines (ends.Fault fault) = IsPlayed b.side b None lines (Err fault)
IsPlayEnd b lines ends.NoMemory = Unit {0}
