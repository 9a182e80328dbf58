-- The numbers of a position of which none are known, from the position before it and the move: what
-- is likely to be hard begins larger (Nagai 2002).
use Rattle.std.specs.Prelude.{◌≡◌, ◌<◌, ◌+◌, ◌*◌, ◌==◌, ◌↔◌, ℕ, List, [], length, Bool, nat_le, nat_lt, is_some, if◌then◌else◌}
use Rattle.bit_boards.specs.declared.piece.Side.{Side}
use Rattle.bit_boards.specs.declared.mask.Mask.{Mask}
use Rattle.bit_boards.specs.Kind.{other}
use Rattle.bit_boards.specs.Mask.{Holds, count}
use Rattle.board_core.specs.declared.moves.Move.{Move}
use Rattle.board_core.specs.declared.moves.Move.TheVariants as moves
use Rattle.board_core.specs.declared.keys.Key.{Key}
use Rattle.board_core.specs.Board.{Board, piece_at}
use Rattle.board_core.specs.Kept.{IsKept}
use Rattle.board_core.specs.Key.{key_of}
use Rattle.board_core.specs.Order.{Lists}
use Rattle.shogi_rules.specs.Rules.{AttacksFrom, after}
use Rattle.shogi_rules.specs.Tsume.{IsCheck, IsEvasion}
use Rattle.start_def.specs.Answers.{answers_of}
use Rattle.pn_numbers.specs.declared.numbers.Numbers.{Numbers}
use Rattle.pn_numbers.specs.Numbers.{IsOpen}

-- The square to which a move goes.
abbrev pub destination : Move → ℕ
destination (moves.Board from to promote) = to.number
destination (moves.Drop dropped to) = to.number

-- 1 for a drop, whose piece reaches the square from the hand; 0 for a move on the board.
abbrev pub drops_of : Move → ℕ
drops_of (moves.Board from to promote) = 0
drops_of (moves.Drop dropped to) = 1

-- The set has the squares from which pieces of the side reach the square, the king too, and
-- whatever pins them.
abbrev pub AreReaching : Board → Side → ℕ → Mask → Type 0
AreReaching b side to squares = (from : ℕ) → Holds squares from ↔ ((from < 81) × AttacksFrom b.cells side from to)

-- The proof number after a check, from how many answers it leaves, and how many pieces of each side
-- reach the square to which it went, the piece that moved among them: two for each answer; two more
-- where the defender could take whatever comes there, and one more where he has a second piece for
-- it. 1 where the check leaves no answer.
abbrev pub proof_after_check : ℕ → ℕ → ℕ → ℕ
proof_after_check answers attacking defending =
    if answers == 0 then 1
    else 2 * answers + (if nat_le attacking defending then 2 else 0) + (if nat_le 2 defending then 1 else 0)

-- The disproof number after a check: larger where the attacker has more pieces there, and most
-- where the check takes a piece.
abbrev pub disproof_after_check : ℕ → ℕ → Bool → ℕ
disproof_after_check attacking defending captures = if nat_lt defending attacking then (if captures then 5 else 4) else 2

-- The numbers after a check.
abbrev pub start_of_check : ℕ → ℕ → ℕ → Bool → Numbers
start_of_check answers attacking defending captures =
    record { pn = proof_after_check answers attacking defending; dn = disproof_after_check attacking defending captures }

-- The numbers after an evasion, from how many checks it leaves: two for each check; 1 where it
-- leaves none.
abbrev pub start_of_evasion : ℕ → Numbers
start_of_evasion checks = record { pn = 2; dn = if checks == 0 then 1 else 2 * checks }

-- The numbers with which the position after the attacker's check begins.
abbrev pub IsStartOfCheck : Side → Board → Move → Numbers → Type 0
IsStartOfCheck attacker b by numbers =
    (evasions : List Move) (attacking defending : Mask) → Lists (IsEvasion attacker (after b by)) evasions
    → AreReaching b attacker (destination by) attacking → AreReaching b (other attacker) (destination by) defending
    → numbers ≡ start_of_check (answers_of evasions) (count attacking + drops_of by) (count defending) (is_some (piece_at b.cells (destination by)))

-- The numbers with which the position after the defender's evasion begins.
abbrev pub IsStartOfEvasion : Side → Board → Move → Numbers → Type 0
IsStartOfEvasion attacker b by numbers =
    (checks : List Move) → Lists (IsCheck attacker (after b by)) checks → numbers ≡ start_of_evasion (length checks)

-- What is known of the numbers with which the position after a move begins: they are from 1 to the
-- cap; those after the attacker's check or after the defender's evasion; the proof number after a
-- check is 1 exactly where it leaves no evasion, and the disproof number after an evasion is 1
-- exactly where it leaves no check.
pub record IsStartOf (attacker : Side) (b : Board) (by : Move) (numbers : Numbers) : Type 0 where
  pub in_range : IsOpen numbers
  pub check : b.side ≡ attacker → IsStartOfCheck attacker b by numbers
  pub evasion : b.side ≡ other attacker → IsStartOfEvasion attacker b by numbers
  pub mate : b.side ≡ attacker → (evasions : List Move) → Lists (IsEvasion attacker (after b by)) evasions → (numbers.pn ≡ 1) ↔ (evasions ≡ [])
  pub safe : b.side ≡ other attacker → (checks : List Move) → Lists (IsCheck attacker (after b by)) checks → (numbers.dn ≡ 1) ↔ (checks ≡ [])

-- The numbers begin the position after a move at whichever position has the key.
abbrev pub IsStartBehind : Side → Key → Move → Numbers → Type 0
IsStartBehind attacker key by numbers = (b : Board) → IsKept b → key_of b ≡ key.0 → IsStartOf attacker b by numbers
