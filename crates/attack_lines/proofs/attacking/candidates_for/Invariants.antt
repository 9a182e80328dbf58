use Rattle.std.proofs.Common.{◌≡◌, ◌<◌, ℕ, false, IsTrue, IsSomeAnd}
use Rattle.bit_boards.specs.Mask.{holds, Holds, count}
use Rattle.bit_boards.specs.Movement.{fits}
use Rattle.board_core.specs.Board.{piece_at}
use Rattle.attack_lines.proofs.attacking.candidates_for.Given as goal

abbrev pub invariant-loop-to : goal.invariant-loop-to
invariant-loop-to l =
    (from to : ℕ) → from < 81 → Holds l.fn.squares to → holds l.left to ≡ false
    → IsSomeAnd (piece_at l.position.cells from) (λ piece. (piece.side ≡ l.by) × IsTrue (fits piece from to)) → Holds l.found from

abbrev pub decreases-loop-to : goal.decreases-loop-to
decreases-loop-to l = count l.left
